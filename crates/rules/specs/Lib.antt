-- The law of the machine, in the order of docs/MACHINE.md. Whoever believes these files need believe nothing else. Division and Storing
-- have besides what is proved of a quotient and a remainder, and of two values that are stored.
pub mod Sorts
pub mod Sizes
pub mod Codes
pub mod Traps
pub mod Kinds
pub mod Bytes
pub mod Image
pub mod Statements
pub mod Check
pub mod Machine
pub mod Encoding
pub mod Answers
pub mod Events
pub mod Effects
pub mod Division
pub mod Storing
pub mod Steps
pub mod WellFormed
pub mod Order
pub mod Walk
pub mod Link
pub mod Calls
