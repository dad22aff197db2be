pub mod Fold
pub mod Cells
pub mod TableFold
pub mod Enable
