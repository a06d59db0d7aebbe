pub mod Numeric
