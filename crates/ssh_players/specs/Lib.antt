pub mod Queue
pub mod Played
pub mod Telling
pub mod Given
pub mod Exchanged
