pub mod Codes
pub mod Commanding
pub mod Feeding
pub mod Owning
pub mod Serving
pub mod Telling
