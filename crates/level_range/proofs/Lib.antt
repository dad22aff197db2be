pub mod Better
pub mod Best
pub mod Combination
pub mod Reduction
