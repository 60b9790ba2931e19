pub use Rattle.lock_stages.proofs as lock_stages
pub use Rattle.safe_monitor.proofs as safe_monitor
pub mod Steps
pub mod Markings
pub mod Whole
pub mod Breaks
pub mod Loops
pub mod Going
pub mod Unmarked
pub mod LookedUpViews
pub mod Rooms
pub mod Reported
pub mod Alone
pub mod Cuts
pub mod MainTheorems
pub mod RepliesInHistory
pub mod Took
pub mod Once
pub mod Order
pub mod May
