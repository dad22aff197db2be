pub mod RuleLaws
pub mod InstanceLaws
pub mod ModuleLaws
pub mod HierarchyLaws
pub mod NetlistLaws
