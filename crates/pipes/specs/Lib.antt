pub mod PipeRows
pub mod Transfers
