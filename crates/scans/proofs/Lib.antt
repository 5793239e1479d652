pub mod Gathered
pub mod Enabling
pub mod Naming
pub mod Fits
