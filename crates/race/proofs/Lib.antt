pub mod Calling
pub mod Lists
pub mod Makings
pub mod Parts
pub mod PlanLists
pub mod RaceEnds
pub mod Raced
pub mod Threads
