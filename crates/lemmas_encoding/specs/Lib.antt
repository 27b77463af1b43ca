-- The machine's bytes and the values that they say: each kind of record, the state, events and entries read and written; then
-- stores into a state's bytes.
pub mod Lengths
pub mod Sized
pub mod Runs
pub mod Numbers
pub mod Registers
pub mod Slots
pub mod Signals
pub mod Threads
pub mod Trees
pub mod Layout
pub mod Machines
pub mod Events
pub mod Entries
pub mod Stores
pub mod TreeStores
pub mod SignalStores
pub mod FirstTree
pub mod Encoded
