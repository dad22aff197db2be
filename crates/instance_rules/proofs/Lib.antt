pub mod Seeing
pub mod Linking
pub mod Naming
pub mod Walking
