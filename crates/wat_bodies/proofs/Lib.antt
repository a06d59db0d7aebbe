pub mod RowLemmas
pub mod NestingLemmas
pub mod PutLemmas
pub mod TurnLemmas
pub mod GroupLemmas
pub mod FormedReading
pub mod BodyLemmas
pub mod RefusalLemmas
