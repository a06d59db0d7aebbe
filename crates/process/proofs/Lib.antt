pub mod Determined
pub mod Made
pub mod Examples
pub mod Quiet
pub mod Kept
