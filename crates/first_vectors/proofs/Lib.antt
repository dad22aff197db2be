pub mod Text
pub mod Loops
pub mod Names
pub mod Steps
pub mod Found
pub mod Again
pub mod Latch
