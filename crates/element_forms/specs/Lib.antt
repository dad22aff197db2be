pub mod Forms
pub mod Strengths
pub mod Classes
