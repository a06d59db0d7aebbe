pub mod StackLemmas
pub mod LocalLemmas
pub mod AlgorithmLemmas
pub mod ModuleLemmas
