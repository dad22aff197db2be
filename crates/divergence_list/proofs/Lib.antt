pub mod Owned
pub mod Rising
pub mod Writes
