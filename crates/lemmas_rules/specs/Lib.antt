-- Small laws of the rules, each cited by several crates.

-- truth values, lists of events
pub mod Logic
pub mod EventLists
-- the parts of the machine: lock sets, job trees, shared words
pub mod Sets
pub mod Disjoint
pub mod Locks
pub mod Trees
pub mod Words
-- what an EXIT adds to the list of trees
pub mod Admitted
-- what passes the image check
pub mod Faults
pub mod Passed
pub mod Heads
pub mod Roles
