-- Two images linked, as the code goes through them.
pub mod Linkable
pub mod Stores
