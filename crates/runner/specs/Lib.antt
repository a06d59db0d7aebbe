pub mod One
pub mod OneThread
