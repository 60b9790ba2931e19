pub mod Copies
pub mod Steps
pub mod Visitors
pub use Copies.{OthersStay, first_made, last_made, open_row, second_made, third_made}
