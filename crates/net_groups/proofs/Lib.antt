pub mod Walks
pub mod Halving
pub mod Uniting
pub mod Joining
pub mod Flattening
pub mod Laws
