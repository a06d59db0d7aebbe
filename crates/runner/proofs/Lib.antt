pub mod Console
pub mod OneThreadLeads
pub mod Runs
pub mod Slices
