pub mod Links
pub mod Rules
pub mod Items
pub mod Places
pub mod Walks
