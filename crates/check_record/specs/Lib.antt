pub mod Forms
pub mod Rows
pub mod Tests
