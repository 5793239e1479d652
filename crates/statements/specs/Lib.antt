pub mod Lines
pub mod Forms
pub mod Fields
pub mod Statements
pub mod Views
