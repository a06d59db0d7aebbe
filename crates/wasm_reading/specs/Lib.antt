pub mod ReadValues
pub mod ReadTypes
pub mod ReadInstr
pub mod ReadExpr
pub mod ReadModule
pub mod ReadAnswers
pub mod Sections
