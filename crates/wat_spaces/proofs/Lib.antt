pub mod PositionLemmas
pub mod NameMaps
pub mod LabelLemmas
pub mod TypeLemmas
pub mod CollectedLemmas
pub mod SpaceLemmas
pub mod FoundLemmas
