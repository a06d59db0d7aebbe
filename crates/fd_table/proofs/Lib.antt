pub mod ExecLemmas
pub mod PlaceLemmas
pub mod WordLemmas
