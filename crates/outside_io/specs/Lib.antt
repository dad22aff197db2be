pub mod Outside
pub mod Answers
pub mod Files
pub mod MemoryShelf
pub mod MemoryFields
pub mod MemorySink
pub mod Edge
