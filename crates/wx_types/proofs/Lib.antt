pub mod FileLemmas
pub mod LogLemmas
pub mod Told
