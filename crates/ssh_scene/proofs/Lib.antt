pub mod Digits
pub mod Generating
pub mod Reasons
pub mod Cutting
pub mod LinesOnce
pub mod Signatures
pub mod Texts
