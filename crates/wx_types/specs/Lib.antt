pub mod Entry
pub mod Errno
pub mod Files
pub mod MemoryObjects
pub mod Outside
pub mod ShelfLog
