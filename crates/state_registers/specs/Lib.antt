pub mod Bits
pub mod Filling
