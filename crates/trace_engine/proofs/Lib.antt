pub use Rattle.trace_judge.proofs as trace_judge
pub mod Ends
pub mod EngineEnds
pub mod Explained
pub mod LineReads
pub mod Texts
pub mod Trials
