pub mod FieldLemmas
pub mod FunctionLemmas
