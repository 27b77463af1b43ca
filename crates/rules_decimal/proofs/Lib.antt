-- The three laws of packed numbers, what they come to for four digits, and the equations by which the code has four digits.
pub mod PackedLaws
pub mod WrittenOut
pub mod AboveNine
pub mod AllAtOnce
pub mod FourDigits
