pub mod Inputs
pub mod Progress
pub mod Lines
pub mod Inside
pub mod Ticks
