pub mod Finding
pub mod Gaining
pub mod Sources
