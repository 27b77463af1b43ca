-- The laws of the block table's rows.
pub mod BadRow
pub mod Rows
