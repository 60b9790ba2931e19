pub use Rattle.world.proofs.history_laws_proofs as history_laws
pub use Rattle.auditor.proofs.laws as laws
pub use Rattle.auditor.proofs.safe_monitor as safe_monitor
pub use Rattle.model.proofs as model
-- The turns of a line
pub mod TurnLaw
pub mod ScenarioRunTurns
pub mod StepsReported
pub mod Within
pub mod Runnings
pub mod Goes
pub mod Alone
pub mod Enabled
pub mod Wanders
pub mod Counted
pub mod Lone
pub mod EventsMade
pub mod Fronts
pub mod Refusals
pub mod InTurn
-- The happenings of a run, and their text
pub mod Grows
pub mod Reportings
pub mod Images
-- The audit of a run
pub mod Observers
-- A run from line to line, up to its end
pub mod Underways
pub mod Played
pub mod Counting
pub mod Onwards
pub mod Written
pub mod Endings
pub mod ReplayEnds
