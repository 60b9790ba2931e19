pub mod Bits
pub mod IntervalSteps
pub mod Numbers
pub mod Orders
pub mod Presets
pub mod WrittenSteps
