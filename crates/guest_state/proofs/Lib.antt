pub mod AnswerLemmas
pub mod BranchLemmas
pub mod FitsLemmas
pub mod HeightLemmas
pub mod LabelLemmas
pub mod LocalLemmas
pub mod SnapshotLemmas
pub mod ThreadLemmas
