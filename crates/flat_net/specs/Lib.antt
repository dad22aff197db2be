pub mod Lists
pub mod Elements
pub mod Islands
pub mod Soundness
pub mod Patches
pub mod Names
pub mod Inside
pub mod Tests
