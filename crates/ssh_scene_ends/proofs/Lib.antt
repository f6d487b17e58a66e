pub mod EventsOnce
pub mod Counting
