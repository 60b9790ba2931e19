mod Lines
mod Lists
pub mod Stages
pub mod Texts
mod WaveRows
