-- The tree list in a state's bytes, and what becomes of it.
pub mod Changes
pub mod Stored
