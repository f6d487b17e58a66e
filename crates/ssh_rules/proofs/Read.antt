-- What is read of the messages, by their layouts and by their bytes.
pub mod Misread
pub mod ChannelRequests
pub mod GlobalRequests
pub mod Signals
pub mod Terminals
pub mod Wanting
