-- Demand 3 over the rules, proved: the second order leaves what the event list leaves, of a list of calls too, and a row is one job.
pub mod Carried
pub mod Reading
pub mod Checked
pub mod Jobs
pub mod Calls
