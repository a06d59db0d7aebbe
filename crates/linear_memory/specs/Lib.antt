pub mod LinearMemory
pub mod Storage
pub mod Accesses
