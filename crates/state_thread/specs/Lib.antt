pub mod Registers
pub mod Returns
pub mod Held
pub mod Threads
pub mod Records
pub mod Same
