pub mod OtherBits
