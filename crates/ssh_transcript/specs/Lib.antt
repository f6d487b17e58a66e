pub mod Words
pub mod Happenings
pub mod CallLines
pub mod Print
pub mod Summary
