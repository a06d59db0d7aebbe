pub mod Heights
pub mod GuestThread
pub mod Module
pub mod Snapshot
pub mod Steps
pub mod Fits
pub mod Sound
