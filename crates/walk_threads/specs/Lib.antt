pub mod Laid
pub mod Walking
