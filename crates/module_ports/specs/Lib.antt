pub mod Ports
pub mod Entries
