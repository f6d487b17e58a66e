-- An input owes one plan, and a run is one.
pub mod Shorter
pub mod Layouts
pub mod Plans
pub mod Walking
pub mod Runs
