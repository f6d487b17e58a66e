pub mod Transfer
pub mod Transcript
pub mod Writings
pub mod Files
