pub mod Deeds
pub mod Channels
pub mod Accepted
pub mod Standing
pub mod Traces
pub mod Users
pub mod Laws
