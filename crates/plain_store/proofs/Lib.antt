-- Names and texts
pub mod Ascii
-- Pairs and numbers of a store
pub mod Places
pub mod Changes
pub mod Numbers
pub mod StoreLines
-- Setups and openings
pub mod OpeningPairs
pub mod GoodSetups
