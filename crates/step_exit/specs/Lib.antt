-- The signals that a job held, admitted one after the other.
pub mod Admitting
pub mod Leaving
