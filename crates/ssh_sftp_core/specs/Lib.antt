pub mod Statuses
pub mod Layouts
pub mod Requests
pub mod Responses
pub mod Trees
pub mod Files
pub mod Handles
pub mod Laws
