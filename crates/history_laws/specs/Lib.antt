pub mod DataLaws
pub mod HistoryLaws
pub mod Stamps
pub use DataLaws.{ChangesFitTheStamps, NewestStampCountsTheChanges}
pub use HistoryLaws.{taken_with}
pub use Stamps.{changes_taken, stamp_at, stamp_read}
