pub use Rattle.lock_stages.specs as lock_stages
pub use Rattle.trace.specs as trace
pub use Rattle.trace_memory.specs as trace_memory
pub mod Forms
pub mod Judging
pub mod Keeping
pub mod Laws
pub mod Memories
pub mod Reasons
pub mod Shown
pub mod Soundness
pub mod Verdicts
pub use Forms.{LongFormIsSame, begin_entry, begin_of, end_of, in_two, long_form, with_move_of}
pub use Judging.{AreReasonsAt, AreReasonsOf, HasJudged, IsExplained, JudgeState, JudgesOn, OfJudged}
pub use Keeping.{HasSeen, IsState, OfSeen, TraceState}
pub use Laws.{breaks_access, breaks_marks, breaks_memory, breaks_overtaken, breaks_together, first_broken, laws_broken, leaves_open, lock_part, lock_past, refusal_of_access, refusal_of_marks, stage}
pub use Memories.{IsNotEarlier, IsWeaker, SameJudgement, WeakerIsNotEarlier, WholeIsSame, has_whole, is_whole, with_memory}
pub use Reasons.{AreReasons, Explains, doorway_by, doorway_of, entry_reading, inside_by, keeps_with, mays_by, mays_of, opened_at, refused, stage_of, waits_by}
pub use Shown.{trace_law_text, trace_verdict_text}
pub use Soundness.{GoodIsSound, IsSound, IsSoundThroughout, MaysKeepAllLaws, MeansSound}
pub use Verdicts.{verdict_after, verdict_of, verdict_with}
pub use declared.reasons.TraceReasons.{TraceReasons}
pub use declared.reasons.TraceRefused.{TraceRefused}
pub use declared.verdicts.TraceLaw.{TraceLaw}
pub use declared.verdicts.TraceVerdict.{TraceVerdict}
