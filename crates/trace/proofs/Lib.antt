pub mod Lists
pub mod Tables
pub mod Texts
