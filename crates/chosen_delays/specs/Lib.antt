pub mod Amounts
pub mod Chosen
pub mod Made
