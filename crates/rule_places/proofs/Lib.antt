pub mod PlaceLaws
pub mod PlaceSteps
