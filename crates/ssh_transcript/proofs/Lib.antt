pub mod Printing
pub mod Hexed
