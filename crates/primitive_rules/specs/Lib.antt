pub mod Starts
pub mod Ports
pub mod Arguments
pub mod Headers
pub mod Refusals
pub mod Places
pub mod Counting
pub mod Walks
