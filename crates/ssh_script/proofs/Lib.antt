pub mod Reading
pub mod Sizes
pub mod Faultless
pub mod Kept
pub mod Endings
pub mod RunsOnce
pub mod TranscriptsOnce
pub mod FilesServed
