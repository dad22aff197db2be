pub mod Readings
pub mod Changes
pub mod Elements
pub mod Nets
pub mod Islands
pub mod Fitting
pub mod Owns
pub mod Rooms
