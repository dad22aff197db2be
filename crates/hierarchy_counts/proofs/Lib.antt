pub mod HierarchyLaws
pub mod RoundLemmas
pub mod WithinLemmas
