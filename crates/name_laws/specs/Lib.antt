pub mod Unbroken
pub mod FitSelects
