-- The laws of events in lent bytes.
pub mod Places
pub mod Faults
