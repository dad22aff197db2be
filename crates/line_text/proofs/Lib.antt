pub mod FaultLaws
pub mod FieldLemmas
pub mod LineLemmas
pub mod NameLemmas
pub mod NumberLemmas
