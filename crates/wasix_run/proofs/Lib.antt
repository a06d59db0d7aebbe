pub mod Printing
pub mod FileVerdicts
pub mod PackLemmas
pub mod Serving
