-- A run ends well only by an input that ends it.
pub mod Run
