pub mod Feeds
pub mod Journals
pub mod Given
pub mod Linked
pub mod Rounds
pub mod Notices
