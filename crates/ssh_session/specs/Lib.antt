pub mod Serve
pub mod Steps
pub mod Between
pub mod KeyExchange
