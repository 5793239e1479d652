pub mod Loads
pub mod Steps
pub mod Outcomes
pub mod Laws
pub mod Shown
