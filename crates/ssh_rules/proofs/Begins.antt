-- An exchange of keys begins for the peer's KEXINIT, or behind all frames of an input.
pub mod Rows
pub mod Run
