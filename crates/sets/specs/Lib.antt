-- The definitions that the contracts cite.
pub mod Members
pub mod Searches
pub mod Shown
