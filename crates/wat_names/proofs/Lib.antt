pub mod NameLemmas
pub mod RowLaws
