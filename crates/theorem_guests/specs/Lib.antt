-- A guest on a linked image, of the rules: what the theorems speak of. proofs/Lib has the main theorems.

-- the linked image: its records, its parts, its check
pub mod Shifted
pub mod Parts
pub mod Passes
-- an event with its labels shifted
pub mod Labels
pub mod Relabelled
-- a guest's events
pub mod Reading
pub mod Unshifted
pub mod Inverse
pub mod OtherBlocks
pub mod Guests
