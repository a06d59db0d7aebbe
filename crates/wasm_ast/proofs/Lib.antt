pub mod LocalsLemmas
pub mod NumberingLemmas
pub mod OpcodeLaws
pub mod TextOrder
pub mod BuilderLemmas
pub mod WalkLemmas
