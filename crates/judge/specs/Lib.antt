pub use Rattle.any_lock.specs as any_lock
pub use Rattle.auditor.specs as auditor
pub use Rattle.auditor.specs.safe_monitor as safe_monitor
pub use Rattle.files.specs as files
pub use Rattle.record_file.specs as record_file
-- A record file, line by line
pub mod Numbers
pub mod Trials
pub mod Ends
pub mod Firsts
pub mod ReasonLines
-- Reports on a record, by any judge
pub mod Explanations
pub mod Judgements
pub mod KeepingLaws
-- Records of this project's lock
pub mod Judging
pub mod ThisLockVerdicts
pub mod Reasons
pub mod Mays
-- Records of any lock
pub mod AnyLockVerdicts
pub mod AnyReasons
pub mod Good
pub use AnyReasons.{AreAnyLockReasons, any_reason_lines, wait_line, waits_from}
pub use Ends.{IsInputFault, IsOfRecord}
pub use Firsts.{HasObservedFirsts, ReportsFirsts}
pub use Explanations.{AreLinesOf, GivesReasons, HasExplained}
pub use Good.{DoorwaysAreOne, GoodIsGood, GoodKeepsOfAny}
pub use Judgements.{JudgeEnds, ReportsReasons, ReportsVerdict, status_of_verdict, verdict_line}
pub use Judging.{BothObserved, HasAudited, HasJudged, JudgeState, found}
pub use Mays.{OnlyStepsKeepAllLaws, StepsKeepAllLaws}
pub use Numbers.{number_in, numbers_from, numbers_of, say_entry}
pub use ReasonLines.{AreLinesAt}
pub use Reasons.{AreReasons, Writes, reason_lines}
pub use Trials.{good_in}
pub use declared.entry_observers.Reporting.{Reporting}
