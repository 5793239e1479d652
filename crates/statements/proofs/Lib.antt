pub mod Gathers
pub mod Shapes
pub mod Counts
pub mod Numbering
