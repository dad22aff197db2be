pub mod Signal
pub mod Bounds
pub mod Levels
pub mod Combine
pub mod Reduce
