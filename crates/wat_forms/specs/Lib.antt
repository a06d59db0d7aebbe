pub mod FieldForms
pub mod Fields
pub mod ReadFields
