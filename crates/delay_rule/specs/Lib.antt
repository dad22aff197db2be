pub mod Delay
pub mod Inertia
pub mod Ticks
