pub mod Widths
pub mod Literals
pub mod Misfits
pub mod Delays
pub mod Drives
