pub mod Joins
pub mod Forests
