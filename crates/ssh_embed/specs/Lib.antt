pub mod Taking
pub mod Transport
pub mod Asking
pub mod Story
