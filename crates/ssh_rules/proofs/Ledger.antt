-- Each channel has sent what it has to.
pub mod Pending
pub mod Waiting
pub mod Absent
pub mod Commands
pub mod Acts
pub mod Inputs
pub mod Renewing
pub mod Idling
pub mod Sums
pub mod LastInput
