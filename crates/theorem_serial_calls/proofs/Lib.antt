-- Demand 3, "The one-by-one reading", of a list of calls and its bytes, proved; and what one step of a list of calls comes to.
pub mod Joined
pub mod Whole
pub mod Reached
pub mod Assigning
pub mod Jobs
pub mod Groups
pub mod Subtraction
pub mod Division
pub mod Decimal
