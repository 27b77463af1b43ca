pub mod Same
pub mod Events
pub mod Running
pub mod Reading
pub mod Statements
pub mod Got
