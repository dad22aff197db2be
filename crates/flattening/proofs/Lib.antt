pub mod Joining
pub mod ListSteps
pub mod Ranges
pub mod SlotLemmas
pub mod SpelledLaws
pub mod StepLemmas
