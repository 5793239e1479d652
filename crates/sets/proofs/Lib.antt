-- The lemmas of the crate.
pub mod BoolLaws
pub mod SearchLaws
pub mod BitLaws
pub mod Decisions
pub mod Values
pub mod SetsShown
