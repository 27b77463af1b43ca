-- The bytes of a fresh machine.
pub mod Fresh
