pub mod Admitted
pub mod Reached
pub mod Answered
pub mod Streams
mod Taking
pub mod LinesOnce
pub mod Alike
pub mod ChosenOnce
pub mod RoundsOnce
pub mod Kept
