pub mod Asking
pub mod Stories
pub mod Adding
