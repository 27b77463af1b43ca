pub mod Sets
pub mod Lowest
