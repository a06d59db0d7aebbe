pub mod Stepped
pub mod Control
pub mod Variable
pub mod Numeric
pub mod Memory
pub mod Atomic
pub mod Step
pub mod Kept
