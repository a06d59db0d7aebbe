pub mod Answers
pub mod Files
pub mod FileTree
pub mod Listings
pub mod Names
pub mod Walk
pub mod Trees
pub mod Prelude
