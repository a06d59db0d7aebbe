pub mod Items
pub mod Remaining
pub mod Closings
pub mod Parting
pub mod Places
