pub mod Scaled
pub mod Scales
