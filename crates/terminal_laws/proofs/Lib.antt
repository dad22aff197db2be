pub mod Walks
pub mod GateCounts
pub mod PortsOnce
pub mod CountLaws
pub mod TerminalLaws
pub mod EndLaws
