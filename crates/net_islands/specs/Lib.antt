pub mod Keys
pub mod Leasts
pub mod Islands
pub mod Parts
