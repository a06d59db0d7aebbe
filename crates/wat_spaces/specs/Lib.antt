pub mod Spaces
pub mod Types
pub mod Names
pub mod TypeKeys
pub mod Means
pub mod Labels
pub mod Collected
pub mod KeptSpaces
