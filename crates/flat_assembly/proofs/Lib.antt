mod AloneLaws
pub mod AssemblyLaws
pub mod WiredLaws
