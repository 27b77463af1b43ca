-- The opcodes that use label A, and label B.
pub mod Labels
pub mod Uses
