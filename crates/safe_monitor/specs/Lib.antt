pub use Rattle.laws.specs as laws
pub mod Entries
pub mod MonitoredBits
pub mod Packing
pub mod Safe
pub mod Monitoring
pub mod Verdicts
pub use Entries.{entry_by}
pub use MonitoredBits.{IsMonitoredAfter, ending_of, ends_overlapped, monitored_after}
pub use Packing.{four_bits, monitored_from, monitored_in, monitored_bits_of}
pub use Safe.{KeepsSafe, MatchBool}
pub use Verdicts.{is_good, law_text, verdict_text, verdict_with}
pub use Monitoring.{AllAreOfThere, HasObserved, IsOfThere, IsOpened, IsMonitor, OfObserved, ReportsMonitored, MonitorState, copy_of, monitored_at, register_of}
pub use declared.monitored_bit.MonitoredBit.{MonitoredBit}
pub use declared.monitored_bit.ReadEnd.{ReadEnd}
pub use declared.verdicts.Law.{Law}
pub use declared.verdicts.Verdict.{Verdict}
