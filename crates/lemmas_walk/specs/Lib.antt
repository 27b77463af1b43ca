pub mod Distinct
pub mod Walked
pub mod Waits
pub mod Met
