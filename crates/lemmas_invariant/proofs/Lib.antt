-- The theorems that rest on the definitions of specs/: the rules of a checked image keep the laws, and what the head of specs/Lib names.
pub mod Blocks
pub mod CheckedRules
pub mod Invariant
pub mod Untouched
pub mod Places
pub mod Destinations
pub mod StaysWellFormed
pub mod StatementLimits
pub mod StaysSized
pub mod States
