pub mod Giving
pub mod Hiding
pub mod ShownEntries
pub mod Monitoring
pub mod Drawn
pub mod Holding
pub mod Shown
pub mod Ends
