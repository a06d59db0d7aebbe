pub mod Bodies
pub mod Bounds
pub mod Decodes
pub mod Floats
pub mod Nesting
pub mod Judged
pub mod Search
