pub mod GoodRanges
pub mod ImageBytes
pub mod Puts
pub mod ReadBytes
pub mod Readings
pub mod Rows
pub mod SlotBytes
pub mod SlotSearch
