-- The peer gets no more replies than its requests want.
pub mod Measure
pub mod Inputs
pub mod Run
pub mod GlobalRun
