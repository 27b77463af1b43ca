-- The refusals of the link.
pub mod BlockSets
pub mod Faults
