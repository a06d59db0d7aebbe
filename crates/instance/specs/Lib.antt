pub mod Calls
pub mod Rows
pub mod Program
pub mod Links
pub mod Waiting
pub mod Kept
pub mod Loads
