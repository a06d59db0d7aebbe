pub mod Integers
pub mod ReadNumbers
