pub mod PortsOf
pub mod Short
