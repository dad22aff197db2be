pub mod SoundRuns
pub mod SoundGates
pub mod SoundParts
