pub mod Plans
pub mod Delays
pub mod Netlist
pub mod Limits
