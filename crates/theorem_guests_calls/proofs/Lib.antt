-- A guest's calls on a linked image: Reading has the theorems `guest-reading`, `first-guest-state`, `other-words-stay` and
-- `other-locks-free`; LinkedCalls has `has-counterparts` and `counterparts-read-alike`; OwnCalls, the way back, has `has-own-calls`,
-- `own-calls-read-alike` and `own-state`.
pub mod Reading
pub mod Counterparts
pub mod LinkedCalls
pub mod OwnCounterparts
pub mod OwnCalls
