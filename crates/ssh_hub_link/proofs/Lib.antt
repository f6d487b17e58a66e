pub mod Telling
pub mod Noticing
pub mod Rounds
