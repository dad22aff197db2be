pub mod AnswerLemmas
pub mod NetlistLaws
pub mod Refusing
pub mod RunClauses
