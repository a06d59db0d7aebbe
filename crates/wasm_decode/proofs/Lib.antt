pub mod SearchLemmas
pub mod DecodeRows
pub mod BoundLemmas
