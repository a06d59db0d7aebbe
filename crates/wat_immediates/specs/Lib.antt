pub mod PlainForms
pub mod InstructionForms
pub mod Rows
