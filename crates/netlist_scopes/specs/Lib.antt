pub mod Rules
pub mod Reached
pub mod Scopes
pub mod Walks
