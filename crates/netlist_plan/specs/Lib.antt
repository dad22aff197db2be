pub mod Unnamed
pub mod Nets
pub mod Elements
pub mod Plan
pub mod Claims
pub mod Additions
pub mod Flattening
