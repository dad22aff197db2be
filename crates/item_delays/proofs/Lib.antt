pub mod ListLaws
pub mod ScaledLaws
pub mod SettingsLaws
pub mod ReachedLaws
