-- The pending signals in a state's bytes: the bytes that are a machine's, and what becomes of a tree.
pub mod Canon
pub mod Changes
pub mod Stored
