pub mod Naming
pub mod Uses
pub mod Summing
pub mod Placing
pub mod ScopeLaws
