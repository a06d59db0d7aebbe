pub mod Buffers
pub mod Requests
pub mod Replies
