pub mod NumberLaws
pub mod TokenLaws
pub mod MasterLaws
pub mod ReachLaws
pub mod SearchLaws
pub mod TopLaws
pub mod OrderLaws
pub mod MarkLaws
