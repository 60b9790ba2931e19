pub use Rattle.trace_file.specs as trace_file
pub use Rattle.trace_judge.specs as trace_judge
pub mod Lines
pub mod Reports
pub mod Trials
pub use Lines.{entry_line, entry_lines, lines_if, may_if, may_lines, number_if, number_line, other_lines, pair_if, pair_line, pair_lines, process_lines, refused_line, refused_text, stage_line, trace_reason_lines, trace_status_of, trace_verdict_line}
pub use Reports.{AreLinesAt, AreLinesOf, HasReported, IsOfTrace, IsTraceFault, ReporterState, ReportsAll, ReportsFront, ReportsTrace, TraceEnds, is_good}
pub use Trials.{GoesOn, Observes, ObservesAt, IsObserved, LineEnds, IsReadUpTo, count_by, count_in}
