-- The start of a job.
pub mod Starting
