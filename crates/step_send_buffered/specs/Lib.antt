pub mod Buffered
pub mod Arrivals
