pub mod Packets
pub mod Replies
pub mod Serving
