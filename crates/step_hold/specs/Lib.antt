-- A thread that takes a lock.
pub mod Holding
