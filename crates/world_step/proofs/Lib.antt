pub mod Going
pub mod Determined
pub mod Ready
pub mod Answering
pub mod Settling
pub mod Standing
pub mod Lines
pub mod Left
pub mod Crossing
pub mod Lineages
pub mod Piping
pub mod Waits
pub mod Journals
pub mod OneFile
mod Examples
