pub mod Passages
pub mod Enters
