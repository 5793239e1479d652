pub mod Refusals
pub mod Conditions
pub mod Compose
pub mod Plans
pub mod Judging
pub mod Searches
pub mod Verdicts
