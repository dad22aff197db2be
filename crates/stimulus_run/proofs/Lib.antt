pub mod Rest
pub mod NextTicks
pub mod Filtering
pub mod Stepping
pub mod Passing
pub mod Lawful
pub mod NextSteps
pub mod Strobes
