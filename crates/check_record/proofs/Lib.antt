pub mod Sums
pub mod Labels
pub mod Lines
pub mod Forms
pub mod Counts
pub mod Allowed
pub mod Rules
