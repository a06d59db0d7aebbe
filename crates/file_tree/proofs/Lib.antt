pub mod WalkLemmas
pub mod Links
pub mod TreeLemmas
pub mod MoveLemmas
pub mod Ends
