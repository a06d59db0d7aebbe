pub mod ThreadOrder
pub mod Stable
pub mod Settled
pub mod Judged
pub mod Quiet
pub mod AgreementMaps
pub mod AgreementClosing
pub mod Ended
pub mod AgreementSteps
pub mod AgreementEnds
pub mod AgreementSettling
pub mod AgreementGoing
pub mod AgreementTransfers
pub mod AgreementAnswers
pub mod AgreementBeginning
mod Examples
