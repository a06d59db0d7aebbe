pub mod Arithmetic
pub mod Atomic
pub mod Bitwise
pub mod Comparison
pub mod Conversion
pub mod Representation
