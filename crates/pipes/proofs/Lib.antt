pub mod TransferLemmas
