pub mod States
pub mod Faults
