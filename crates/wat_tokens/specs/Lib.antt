pub mod Strings
pub mod Elements
pub mod Tokens
pub mod Pieces
pub mod Quoted
pub mod Stored
pub mod Reads
