pub mod Signals
pub mod Ranges
pub mod PassLemmas
pub mod Writes
pub mod StepLemmas
pub mod TraceLemmas
pub mod RunLemmas
pub mod RunState
