pub mod Reaching
pub mod HostLines
pub mod GatewayScene
pub mod Telling
pub mod Forwarding
