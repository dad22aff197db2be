pub mod TreeLaws
pub mod RangeLaws
pub mod RunLaws
pub mod PartLaws
pub mod EvenLaws
