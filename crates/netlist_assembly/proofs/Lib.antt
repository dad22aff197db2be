pub mod WiredSteps
