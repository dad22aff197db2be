pub mod Written
pub mod Fit
pub mod Words
pub mod Spelling
pub mod Tree
