pub mod Called
pub mod Picks
pub mod Reopened
pub mod Shaped
pub mod Stepped
pub mod Trying
