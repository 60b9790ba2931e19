pub use Rattle.any_lock.proofs as any_lock
pub use Rattle.auditor.proofs as auditor
pub use Rattle.auditor.proofs.safe_monitor as safe_monitor
pub use Rattle.auditor.proofs.world.history_laws_proofs as history_laws
pub use Rattle.record_file.proofs as record_file
-- A file, line by line
pub mod Lines
pub mod Trials
-- The engine
pub mod Ends
pub mod Firsts
pub mod EngineEnds
-- Texts
pub mod Texts
-- Reasons
pub mod LinesAt
pub mod Splits
pub mod Written
-- A judge
pub mod JudgedRecords
pub mod Explained
pub mod AnyLockReasons
pub mod Mays
-- The open accesses and torn bits of a process
pub mod StepMarks
pub mod Opened
pub mod OpenDoings
pub mod LastWrites
pub mod Torn
pub mod TornDoings
-- A record that is good for this project's lock is good for any lock
pub mod NoneBelow
pub mod SameReply
pub mod OneDoorway
pub mod Accesses
pub mod Withdrawals
pub mod PlainMarks
pub mod PlaceMarks
pub mod MarksKept
pub mod Good
pub mod GoodIsGood
