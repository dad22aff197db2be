pub mod Bounds
pub mod Settling
pub mod ByLevels
pub mod Charges
pub mod Conditions
pub mod Progress
pub mod OneSide
