pub mod Joins
pub mod Forms
pub mod Lines
pub mod Texts
pub mod LinesShown
pub mod TextsShown
