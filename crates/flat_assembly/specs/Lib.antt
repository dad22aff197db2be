pub mod Assembly
pub mod Wired
