pub mod Settings
pub mod Loan
pub mod Recording
pub mod Receiving
pub mod OwnCalls
