pub mod Nesting
pub mod Bodies
