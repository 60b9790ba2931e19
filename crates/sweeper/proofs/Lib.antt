pub use Rattle.auditor.proofs.laws as laws
-- A runner makes an event
pub mod Accepted
pub mod Enabled
pub mod Making
pub mod Dues
-- It continues
pub mod Going
pub mod Stretches
pub mod Onward
pub mod Units
-- Every run is good
pub mod Soundness
pub mod Goods
-- One process alone makes the steps of the rounds
pub mod Pasts
pub mod Alone
pub mod Rounding
-- Runs with alike cores end alike
pub mod Alike
pub mod Outcomes
-- The counts
pub mod Counting
