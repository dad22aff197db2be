pub mod SoundPlans
pub mod SoundAdditions
pub mod Counts
