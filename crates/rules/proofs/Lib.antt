-- The marked trials of docs/PROMISES.md, as one table, `trials`, those of division, `divisions`, those of packed decimal, `decimals`, and
-- what they are proved with.
pub mod Running
pub mod Ends
pub mod Opcodes
pub mod Assigning
pub mod Standing
pub mod Forms
pub mod Dividing
pub mod Decimals
pub mod Waits
pub mod Founding
pub mod Trials
pub mod Quotients
pub mod StoredBoth
