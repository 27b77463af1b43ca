-- A direct SEND and a CALL.
pub mod Entering
