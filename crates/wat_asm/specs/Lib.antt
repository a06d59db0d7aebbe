pub mod Assembled
pub mod Answers
pub mod Taken
