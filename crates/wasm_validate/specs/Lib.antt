pub mod Blocks
pub mod View
pub mod Context
pub mod Algorithm
pub mod Ends
pub mod Elements
pub mod Prelude
