pub mod Queues
pub mod Telling
pub mod Giving
pub mod Exchanging
pub mod Heads
pub mod Keeping
