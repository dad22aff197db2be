pub mod Fronts
pub mod MentionLaws
pub mod PortLaws
pub mod TextLaws
pub mod RunLaws
pub mod SelectLaws
