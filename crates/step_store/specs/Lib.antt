pub mod Destinations
pub mod Operands
