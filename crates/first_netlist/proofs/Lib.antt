pub mod Apart
pub mod Each
pub mod Indices
pub mod Sounds
