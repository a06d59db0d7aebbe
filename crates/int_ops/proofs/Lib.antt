pub mod Narrow
pub mod Places
pub mod Quotients
pub mod SignedRows
pub mod Views
