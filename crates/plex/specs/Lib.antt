-- What a call that is not refused has been lent.
pub mod Lent
pub mod Version
