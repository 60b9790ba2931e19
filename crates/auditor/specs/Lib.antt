pub use Rattle.safe_monitor.specs as safe_monitor
pub use Rattle.world.specs as world
pub mod Verdicts
pub mod Observing
pub use Observing.{AreAt, AuditorState, BreaksNext, HasObserved, Observes, ObservesBefore, ObservesRun, ObservesSteps, IsAddedByStep, IsCount, IsObserved, OfObserved, OfObservedSteps, event_in, event_marked, flick_in, law_of_misplaced, law_of_wrong, step_reported, stepped_as, steps_on, with_reply}
pub use Verdicts.{AllKeep, BreaksFirst, GoodAccessesAreThere, GoodIsOfEvents, IsAlike, IsAt, IsBadAt, IsGoodOfEvents, IsMade, IsOfEvent, IsTrueRecord, IsVerdict, Keeps, KeepsAll, KeepsProgram, KeepsTogether, KeepsUnit, OfEventsIsGood, OwesAt, number_of, reports_event}
pub use Rattle.safe_monitor.specs.{Law, Verdict}
