pub use Rattle.history_laws.proofs as history_laws_proofs
pub use Rattle.laws.proofs as laws_proofs
pub use Rattle.process.proofs as process_proofs
-- The registers of all processes
pub mod WorldRegisters
-- The processes ahead of each process
pub mod QueueBegun
pub mod QueueAfter
pub mod QueueLists
pub mod QueueListed
-- The seat of each process
pub mod WorldLists
pub mod WorldStages
pub mod WorldOpen
pub mod WorldSeats
pub mod WorldReporting
-- The world after an event
pub mod WorldShows
pub mod CoreGoes
-- Cores that behave alike
pub mod AlikeMemories
pub mod AlikeCores
pub mod WorldPending
pub mod CoreKeeps
pub mod CoreLooks
pub mod CoreLast
pub mod CoreOverlaps
pub mod CoreChanges
pub mod WorldMainTheorem
pub mod CoreRefused
pub mod CoreNext
pub mod CoreWalks
pub mod WorldWithin
pub mod WorldTurns
pub mod CoreCode
-- A world is a core with its history
pub mod CoreNew
pub mod CoreCopies
pub mod WorldKeeps
-- Facts that are read from a world
pub mod WorldAsks
pub mod WithinStages
pub mod WorldNewest
