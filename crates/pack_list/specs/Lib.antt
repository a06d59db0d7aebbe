pub mod Lines
pub mod Cuts
pub mod Judging
pub mod Answers
pub mod Made
pub mod Prelude
