pub mod FlatNames
pub mod Declarations
pub mod Meaning
pub mod Form
