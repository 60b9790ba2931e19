pub use Rattle.lock_stages.specs.{Passage, is_ahead, is_other_inside, lowest_below, other_ahead, other_inside, waits_before}
pub use Rattle.safe_monitor.specs as safe_monitor
pub use Rattle.safe_monitor.specs.{Verdict, is_good, verdict_with}
pub mod ProcessViews
pub mod Refusals
pub mod Laws
pub mod Verdicts
pub mod Keeping
pub mod Shown
pub mod Judging
pub mod MainTheorem
pub mod Reasons
pub mod Changes
pub use Changes.{MaysKeepAllLaws, changed, mark_with}
pub use MainTheorem.{AnswersWhatItTook, GoodSaysTheMainTheorem, KeepsMainTheoremThroughout, OvertakesNobody}
pub use Judging.{AreReasonsAt, AreReasonsIf, AreReasonsOf, BothObserved, HasJudged, JudgeState}
pub use Keeping.{LockRunState, Knows, accessed, accessed_by, at_rest, is_taken, is_taken_as, marked, marked_all, refusal_on}
pub use Laws.{breaks_access, breaks_history, breaks_marks, breaks_overtaken, breaks_safe, breaks_together, broken_inside, broken_later, ends_wrongly, first_broken, is_that, right_reply}
pub use Reasons.{AreReasons, change_of, doorway_with, ends_with, entered, entry_of, inside_by, part_of_view, opened_by, other_value, stage_of, view_of, torn_by, value_in, wait_ahead, wait_by, with_value}
pub use Refusals.{access_refusal, first_that, has_nothing, has_one_mark, has_other_reply, is_end_of, is_of_bit, is_reply, is_there, is_withdrawn, maker_refusals, mark_refusal, may_move, move_refusals, refusal_behind, refusal_of_access, refusal_of_marks, same_reply, same_truth, must_be_alone}
pub use Shown.{access_refusal_text, law_text, mark_refusal_text}
pub use ProcessViews.{begun_by, has_access, is_withdrawal, its_call, left_open, opened, passage_in, reply_in, process_view, torn, torn_after, write_of}
pub use Verdicts.{IsVerdict, verdict_after, verdict_of}
pub use declared.refusals.AccessRefusal.{AccessRefusal}
pub use declared.any_lock_law.AnyLockLaw.{AnyLockLaw}
pub use declared.process_views.BegunAccess.{BegunAccess}
pub use declared.refusals.MarkRefusal.{MarkRefusal}
pub use declared.reasons.Refused.{Refused}
pub use declared.reasons.Remedy.{Remedy}
pub use declared.process_views.ProcessView.{ProcessView}
