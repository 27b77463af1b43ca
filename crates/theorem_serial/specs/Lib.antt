-- Demand 3 over the rules: what is claimed. The main theorems stand in proofs/: `one_by_one` of Reading (any rules that keep the law of
-- lemmas_invariant/specs/Laws), `checked-one-by-one` of Checked (a checked image and its block table), `calls-one-by-one` of Calls (the
-- events of call after call), `one-job-a-row` of Jobs; and here, `byte-order` of ByteOrder (the second order of the bytes is that of the
-- values).

-- two events of different threads in either order
pub mod Frame
pub mod Swap
-- the second order
pub mod Carried
pub mod Rows
pub mod Reading
pub mod Losses
-- jobs, calls, bytes
pub mod Jobs
pub mod Calls
pub mod ByteOrder
