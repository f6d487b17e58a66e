pub mod Fields
pub mod Trees
pub mod Shown
pub mod Writing
pub mod Packets
pub mod Lawful
