pub mod EventLines
pub mod Telling
