pub use Rattle.world.specs.history_laws as history_laws
pub use Rattle.world.specs.laws as laws
pub use Rattle.world.specs.process as process
pub use Rattle.world.specs as world
pub use Rattle.model.specs as model
pub use Rattle.auditor.specs.safe_monitor as safe_monitor
pub use Rattle.run_lines.specs as run_lines
pub mod Counts
pub mod ScenarioRuns
pub mod Growing
pub mod Happenings
pub mod Judging
pub mod Observing
pub mod Parts
pub mod Replays
pub mod RunRecords
pub mod Runs
pub mod Steppers
pub mod Summaries
pub mod Takings
pub mod Reporting
pub mod Texts
pub mod Turns
pub mod Writing
pub use Counts.{IsCounted}
pub use ScenarioRuns.{ScenarioRunState, Follows, IsQuiet, KeepsScenarioRun, Makes, QuietTurns, scenario_run}
pub use Growing.{text_longer}
pub use Happenings.{Happening, Lacks, Looks, Tires, Tries, accepted, past_after, refusals, refusals_at, tried}
pub use Judging.{Audits}
pub use Observing.{Comes, ComesAlong, ComesDown, ComesOn, ComesTo, Happens, ObservesPassing, ObservesStep, ObservesUnmarked, IsNewest, LeavesRoom, MakesStep, PassBy, PassQuietly, PassWithin, PassesAlone, Plays, PlaysLine, PlaysLines, RunsAlone, RunsTo, StepsOn, StepsWithin, StopsAlone, StopsBy, StopsLine, StopsLines, ReportsStep, overlapped_in, room_wanted}
pub use Parts.{IsFront, IsLineMade, IsPart, MadeNewest, PlaysPart, PlaysUntil, events_in, events_to}
pub use Replays.{InputKeepsMainTheorem, IsSummaryOf, RunKeepsMainTheorem, ended}
pub use RunRecords.{accepted_events, listed, run_record}
pub use Runs.{Run, after_pick_in, go_limit, goes, happenings, is_there, may_step, enabled, next_step, past_in, pick_among, picked, run_after, run_at_start, runs, stepped, steps, wanders, with_happening}
pub use Steppers.{IsAlone, IsAway, remaining_after, turns_drawn}
pub use Summaries.{CanCount, can_count_less, counted, summary_of}
pub use Takings.{Took, TookPart, part_before, part_on, part_unobserved, took_none, took_on}
pub use Reporting.{AddsMarks, IsMarked, Reports, ReportsOf, entry_made, events_reported, is_step, marks_made, reported_step, reported_text, reported_unmarked}
pub use Texts.{end_line, entry_text, mark_line, newest_store, newest_words, refused_line, replay_text, replayed, store_text, text_at, text_of}
pub use Turns.{Turn, ends, go_rest, go_turn, happens, made_turn, next_turn, on_turn, once, part_of_line, rest_of, step_turn, turn_of, turns_in, turns_made, wander_turn}
pub use Writing.{Writes, WritesPart}
pub use Rattle.scenario.specs.files.{FailsAsWriting, IsWriteFault, failed_write}
pub use declared.reports.Accepted.{Accepted}
pub use declared.audits.RunAudit.{RunAudit}
pub use declared.reports.UnmarkedStep.{UnmarkedStep}
pub use declared.summaries.Summary.{Summary}
pub use declared.reports.TurnReport.{TurnReport}
pub use declared.play_limit.LineMade.{LineMade}
pub use declared.play_limit.PlayLimit.{PlayLimit}
