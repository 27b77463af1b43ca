pub mod Readings
pub mod Gathered
pub mod Legal
pub mod Statements
pub mod TwoDestinations
pub mod Cells
