-- The laws of lent bytes: stores and what they leave, numbers, runs of blocks, and tests of runs.
pub mod Each
pub mod Put
pub mod Numbers
pub mod Blocks
pub mod Filled
pub mod Tests
pub mod Found
pub mod Runs
pub mod Bits
pub mod Marked
pub mod Gathered
pub mod Pieces
pub mod Inside
