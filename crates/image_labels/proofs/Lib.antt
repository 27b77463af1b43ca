-- The theorem that rests on the sets of specs/Uses.
pub mod Uses
