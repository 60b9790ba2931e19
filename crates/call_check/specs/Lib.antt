pub use Rattle.model.specs as model
pub mod Weighing
pub mod Following
pub mod Shown
pub mod Merges
pub mod SaidOverLists
pub mod OneHistory
pub mod OneVerdict
pub use Following.{AreBlank, AreChains, AreFew, AreNotedAt, AreNotedBelow, AreNotedFrom, AreNothing, ArePart, IsBlank, IsCaller, IsFew, IsFollowed, IsJudged, IsLast, IsLeast, IsLink, IsNote, IsNoteBy, IsOf, Puts, changes_of}
pub use Merges.{IsMerge, IsMergeOfTwo, of_first, of_more, of_none, of_second, over}
pub use OneHistory.{AreAnsweredFrom, GoodIsOneHistory, IsAnsweredBy, IsHistoryOf, call_lists, call_lists_from}
pub use OneVerdict.{VerdictIsOne}
pub use SaidOverLists.{AreGood, BadEndIsSaidOverLists, ComesBefore, GoodIsSaidOverLists, IsImageAfter, IsOfItsStore, fits_place, is_change, is_change_from, number_of_changes, store_below, store_through}
pub use Shown.{verdict_text}
pub use Weighing.{AreShort, HasWrongReply, IsBad, IsBadAt, IsBadIn, IsEnd, IsLowestBad, IsVerdict, IsWeighed, NoneIsBad, above, after_one, all_calls, all_calls_from, caller_of, calls_at, calls_from, changes_at, changes_there, falling, falls, is_above, is_one_of_several, is_other_answer, is_other_with_place, is_past, is_place, is_reply, is_reply_without_place, several, store_after, store_at, with_place, without_place, wrong_reply}
pub use declared.calls.Call.{Call}
pub use declared.notes.ChangingCalls.{ChangingCalls}
pub use declared.chains.PositionLink.{PositionLink}
pub use declared.notes.Note.{Note}
pub use declared.verdicts.Weighed.{Weighed}
