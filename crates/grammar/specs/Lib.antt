pub mod Grammar
pub mod Laws
pub mod Shown
pub mod Written
