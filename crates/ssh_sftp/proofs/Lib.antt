pub mod Joined
pub mod First
pub mod Seats
pub mod Channels
pub mod Clauses
