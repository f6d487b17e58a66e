-- A measure of the frames that were written and of those that may still come.
pub mod Calls
pub mod Commands
pub mod Rows
pub mod Events
