pub mod FirstOf
pub mod Refusals
