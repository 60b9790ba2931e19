pub mod PortsThen
