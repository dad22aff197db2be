pub mod Lists
pub mod CountLaws
pub mod Parts
pub mod RefusalLaws
pub mod WalkLaws
