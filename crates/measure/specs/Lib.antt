pub mod Meaning
pub mod Supplied
pub mod Capped
pub mod CentsMeasureLemmas
pub mod Sides
pub mod PairMeasureLemmas
