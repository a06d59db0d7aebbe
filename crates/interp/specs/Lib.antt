pub mod Stops
pub mod Operands
pub mod Rows
pub mod Reached
