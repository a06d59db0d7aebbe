pub mod PartLemmas
pub mod ItemLemmas
pub mod FlatLemmas
