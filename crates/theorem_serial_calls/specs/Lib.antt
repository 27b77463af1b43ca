-- Demand 3, "The one-by-one reading", of a list of calls and its bytes: what is claimed, and proofs/ has the theorems. CallList says what
-- a list of calls is and what is claimed of it: `calls-one-by-one` of proofs/Whole. Jobs says that a row is one job: `one-job-a-row`.
-- Reached parts a list at one step. By it Groups has what the locks of several blocks come to there, `enters-with-its-lock` and
-- `waits-for-the-lock`, and Assigning what a statement of ASSIGN's kind does. By that Subtraction has `traps-below-zero`,
-- `subtracts-exactly` and `absent-first`, Division `divides`, `traps-by-zero` and `absent-first`, and Decimal `unpack-undoes-pack`,
-- `pack-undoes-unpack`, `sum-unpacked` and what each step stores or traps with: there is what is claimed, proofs/ has that it holds.
pub mod CallList
pub mod Accepted
pub mod Joined
pub mod Ordered
pub mod Reached
pub mod Assigning
pub mod Jobs
pub mod Groups
pub mod Subtraction
pub mod Division
pub mod Decimal
