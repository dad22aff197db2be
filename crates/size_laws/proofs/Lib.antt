pub mod SizeLaws
pub mod ReachLaws
