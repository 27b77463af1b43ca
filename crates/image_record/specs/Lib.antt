-- The laws of the image's records, and of records with their labels shifted.
pub mod Records
pub mod Shifts
