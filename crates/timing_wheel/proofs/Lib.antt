pub mod Least
pub mod Rings
pub mod Kept
pub mod Live
pub mod Held
pub mod Taken
pub mod Copied
