pub mod Known
pub mod Suffixes
