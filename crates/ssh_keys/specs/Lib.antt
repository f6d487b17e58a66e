pub mod Algorithms
pub mod Certificates
pub mod Checks
pub mod Errors
pub mod Keys
pub mod Offers
pub mod Signatures
pub mod Tables
