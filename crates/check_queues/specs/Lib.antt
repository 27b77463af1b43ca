-- The pass over the trees of a state, in the order in which it is built up.
pub mod Homes
pub mod Queues
pub mod Flags
pub mod Passing
