pub mod Precisions
pub mod InForce
pub mod Walks
