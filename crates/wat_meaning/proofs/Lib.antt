pub mod StepLemmas
pub mod DistinctLemmas
