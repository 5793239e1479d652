pub mod Cuts
pub mod Numerals
