pub mod Sessions
pub mod Taken
pub mod Pins
pub mod Served
pub mod Runs
pub mod Programs
