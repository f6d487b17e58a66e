pub mod Silent
pub mod Serving
pub mod Unfailing
pub mod Joining
pub mod Asking
pub mod Showing
pub mod Leaving
