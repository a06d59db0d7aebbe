pub mod Entries
pub mod Lookups
pub mod Mapped
pub mod Maps
pub mod Options
pub mod Sizes
pub mod Sums
mod Tests
pub mod Values
