-- Nothing of the connection is served before an accepted authentication.
pub mod Guards
pub mod Verdicts
pub mod Rows
pub mod Commands
pub mod Run
