pub mod Opens
pub mod Verdicts
pub mod Generated
pub mod Grammar
pub mod Queues
pub mod Scene
pub mod Pieces
