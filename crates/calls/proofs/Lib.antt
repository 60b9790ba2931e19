pub use Rattle.scenario_run.proofs as scenario_run_proofs
pub use Rattle.scenario.proofs as scenario_proofs
pub use Rattle.world.proofs as world_proofs
pub mod Loops
pub mod Noted
pub mod Folds
pub mod InCall
pub mod Steps
pub mod Passing
pub mod Observed
pub mod ListSteps
pub mod KeptThere
pub mod Unfailed
pub mod Ranges
pub mod Fronts
pub mod Tabling
pub mod UnmarkedSteps
pub mod TabledSteps
-- A record, entry by entry
mod Overlapped
mod Listed
-- Records that are good for any lock
mod Ends
mod AsRuns
