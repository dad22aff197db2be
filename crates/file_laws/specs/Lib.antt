pub mod FileFacts
pub mod PrimitiveFacts
