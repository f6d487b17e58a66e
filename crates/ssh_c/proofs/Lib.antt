pub mod Fed
pub mod TheBox
pub mod TheFiles
