pub mod Times
pub mod Links
pub mod Slots
pub mod Index
pub mod Wheel
pub mod Entries
