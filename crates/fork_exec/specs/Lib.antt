pub mod Process
pub mod Copies
