pub mod Plain
pub mod Lists
pub mod Inside
pub mod Times
pub mod Due
pub mod Phases
