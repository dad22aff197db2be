pub mod KeptLaws
pub mod PrimitiveLaws
pub mod TopLaws
