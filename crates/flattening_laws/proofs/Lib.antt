pub mod Apart
mod NameTrees
pub mod TreeNames
mod StepNames
pub mod BitNames
mod Trees
pub mod Numbers
mod Within
pub mod SoundLaws
mod Connected
pub mod CountLaws
pub mod DepthLaws
pub mod EndLaws
