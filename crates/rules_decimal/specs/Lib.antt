-- Numbers as digits, packed decimal numbers with their three laws, and the equations by which the code has four digits.
pub mod Digits
pub mod DigitLaws
pub mod Packed
pub mod WrittenOut
pub mod Masks
pub mod AboveNine
