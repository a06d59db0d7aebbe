mod AfterLemmas
mod CallLemmas
mod ControlLemmas
mod MemoryLemmas
mod RowLemmas
mod StepLemmas
mod VariableLemmas
