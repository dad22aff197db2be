pub mod Words
pub mod Messages
pub mod Refusals
pub mod Netlists
pub mod Answer
pub mod Clauses
pub mod Reports
