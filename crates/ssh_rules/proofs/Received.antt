-- No more data are passed on a channel than was granted there.
pub mod Granting
pub mod Filling
pub mod Commands
pub mod Acts
pub mod Carried
pub mod BareRows
pub mod Rows
pub mod Run
