pub mod Pieces
pub mod JudgeLemmas
