pub mod Stated
pub mod Answered
pub mod Views
pub mod Laws
pub mod Shown
