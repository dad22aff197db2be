pub mod RuleLaws
pub mod ReachedLaws
pub mod ScopeLaws
