pub mod Added
pub mod Composes
