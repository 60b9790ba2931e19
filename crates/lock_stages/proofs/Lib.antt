pub mod Ahead
pub mod Entering
pub mod Lowest
pub mod Observed
pub mod Refused
pub mod Sound
pub mod Steps
