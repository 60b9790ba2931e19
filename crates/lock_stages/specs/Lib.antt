pub use Rattle.model.specs as model
pub mod Entries
pub mod Keeping
pub mod Order
pub mod Passages
pub mod Refusals
pub mod Shown
pub mod Soundness
pub mod States
pub use Entries.{LockEntry, LockPast, has_mark, is_call, is_enter, is_wait, lock_entry}
pub use Keeping.{HasObserved, OfObserved, StagesState, accessed, at_rest, marked, process_state_after}
pub use Order.{breaks_overtaken, breaks_together}
pub use Passages.{AreSince, HasPassage, HavePassages, OfPassages, ahead_since, overtakes_another, joins_another, inside_since, is_ahead, is_other_inside, lowest_below, no_passage, other_ahead, other_inside, waits_before, with_access, with_call, with_enter, with_leave, with_wait, without_wait}
pub use Refusals.{first_refusal, is_crowded, is_idle, is_in_doorway, is_inside, is_leaving, is_waiting, mark_refusal, refusal_of_marks}
pub use Shown.{lock_mark_refusal_text, lock_stage_text}
pub use Soundness.{EntersAlone, EntersInTurn, IsAloneInside}
pub use States.{lock_passage, lock_stage, passage_after, passage_marked, process_state, stage_after}
pub use declared.passages.Passage.{Passage}
pub use declared.refusals.LockMarkRefusal.{LockMarkRefusal}
pub use declared.states.LockStage.{LockStage}
pub use declared.states.ProcessState.{ProcessState}
