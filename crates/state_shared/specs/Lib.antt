pub mod Words
pub mod Locks
