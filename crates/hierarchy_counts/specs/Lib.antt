pub mod Hierarchy
pub mod Rounds
