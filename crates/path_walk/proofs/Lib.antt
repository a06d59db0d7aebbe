pub mod PieceLemmas
pub mod PartLemmas
