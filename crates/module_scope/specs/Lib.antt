pub mod Roles
pub mod Mentions
pub mod Occurrences
pub mod Rules
pub mod Nets
pub mod Places
pub mod Scopes
pub mod Summaries
