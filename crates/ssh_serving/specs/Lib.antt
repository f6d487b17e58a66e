pub mod Serve
pub mod Handing
