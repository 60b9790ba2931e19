pub mod Escapes
pub mod KindsOfTags
pub mod Lines
pub mod Readings
pub mod Stacks
pub mod Tags
mod Assembled
mod Runs
