pub use Rattle.laws.proofs as laws
pub mod Calm
pub mod Observes
pub mod Opened
pub mod Openings
pub mod OwnPlaces
pub mod Packs
pub mod GoodVerdicts
