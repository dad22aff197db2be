mod Lengths
mod ElementLaws
mod InstanceLaws
mod CountLaws
mod NetLaws
pub mod PortLaws
