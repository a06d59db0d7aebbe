pub mod Entries
pub mod NextItem
pub mod Image
pub mod Answers
pub mod Progress
pub mod Written
pub mod Same
pub mod Prelude
