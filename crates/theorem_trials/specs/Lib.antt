-- The marked trials on bytes: `on_bytes` of OnBytes. Blocks that one lock guards: `groups` of Groups. A link on bytes: `links` of Links,
-- and the order of its own numbers: `link_order` of LinkOrder, by the laws of Copies. The labels of a state's signals: `signals` of
-- Signals. Division on bytes: `divisions` of Division. Packed decimal on bytes: `decimals` of Decimal.
pub mod Lent
pub mod OnBytes
pub mod Groups
pub mod Signals
pub mod Links
pub mod Copies
pub mod LinkOrder
pub mod Division
pub mod Decimal
