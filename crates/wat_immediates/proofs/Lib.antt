pub mod ExponentLemmas
pub mod TableLemmas
pub mod ImmediateLemmas
