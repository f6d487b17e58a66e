pub mod Authorised
pub mod Driven
pub mod Moves
pub mod Served
