pub mod Targets
pub mod Walking
