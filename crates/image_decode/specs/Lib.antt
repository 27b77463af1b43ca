-- The operation of an opcode.
pub mod Operations
