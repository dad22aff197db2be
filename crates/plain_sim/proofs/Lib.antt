pub mod Stepping
pub mod Places
pub mod Passes
pub mod Pending
pub mod Inputs
pub mod Times
pub mod Keys
pub mod DueTimes
