pub mod Told
pub mod Distinct
