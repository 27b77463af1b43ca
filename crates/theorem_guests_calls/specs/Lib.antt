-- A guest's calls on a linked image: what the theorems speak of. proofs/Lib has the main theorems.
pub mod Shifts
pub mod Guests
pub mod Reading
pub mod Counterparts
pub mod LinkedCalls
pub mod OwnCalls
