pub mod Entries
pub mod Invariant
pub mod Order
pub mod Parts
