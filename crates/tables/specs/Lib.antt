pub mod Entries
pub mod Excluded
pub mod Retreats
pub mod Shapes
pub mod Tables
pub mod Trails
