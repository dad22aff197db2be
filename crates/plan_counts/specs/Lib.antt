pub mod PartCounts
pub mod PortWidths
