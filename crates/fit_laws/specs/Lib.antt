pub mod FitParts
pub mod EvenParts
