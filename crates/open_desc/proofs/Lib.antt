pub mod CountLemmas
pub mod KindLemmas
pub mod ProcessLemmas
pub mod ReferenceLemmas
pub mod SlabLemmas
pub mod TableLemmas
