pub mod Codes
pub mod Descriptions
pub mod Ends
pub mod Offsets
pub mod Processes
pub mod Reading
pub mod Writing
pub mod Prelude
