pub mod Delays
pub mod Lists
pub mod Slots
pub mod Spelled
