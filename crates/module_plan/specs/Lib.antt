pub mod Meant
pub mod Surroundings
