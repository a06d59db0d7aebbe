pub mod Parsed
pub mod Immediates
pub mod Seen
pub mod Formed
pub mod Flat
pub mod SeenFields
