pub mod Walks
pub mod RunLists
pub mod Steps
pub mod References
