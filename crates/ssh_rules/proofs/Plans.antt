-- What holds of rows, commands and what goes to an exchange of keys, for all laws.
pub mod Results
pub mod CallsAlone
pub mod Gates
pub mod Passing
pub mod Exchanging
pub mod Acting
pub mod Apart
pub mod Beside
pub mod Settled
pub mod Requested
pub mod Telling
pub mod Verdicts
pub mod Emptied
pub mod Frameless
