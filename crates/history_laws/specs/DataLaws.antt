-- The laws of the data that are not among the main theorems of `record`. They hold of the record of every list of events.
use Rattle.std.specs.Prelude.{◌≡◌, ℕ, ◌<◌, ◌≤◌, take, slice_get, Some, IsFalse}
use Rattle.plain_store.specs.{reply_to}
use Rattle.model.specs.{EachPastGiven, Taken, history, is_somebody_inside, max_of, newest_stamp, store_after, versions_held}
use Rattle.history_laws.specs.Stamps.{changes_taken}

-- Each command of the history has the sequential store's reply after the commands before it.
abbrev pub RepliesAreThoseOfTheirPlaces : Type 0
RepliesAreThoseOfTheirPlaces = EachPastGiven λ s past. (k : ℕ) (t : Taken) → slice_get (history s past) k ≡ Some t →
    t.reply ≡ reply_to (store_after s (take k (history s past))) t.command (record { process = t.process; number = t.number })

-- There are never more changes than the greatest stamp.
abbrev pub ChangesFitTheStamps : Type 0
ChangesFitTheStamps = EachPastGiven λ s past. changes_taken s past ≤ max_of s.stamp_bits

-- While no process is inside, the greatest committed stamp is the number of changes.
abbrev pub NewestStampCountsTheChanges : Type 0
NewestStampCountsTheChanges = EachPastGiven λ s past. IsFalse (is_somebody_inside s past) → newest_stamp (versions_held s past) ≡ changes_taken s past

-- In version 2 the numbers of a process's commands ascend in the history.
abbrev pub NumbersAscend : Type 0
NumbersAscend = EachPastGiven λ s past. s.version ≡ 2 → (j k : ℕ) (t u : Taken) → j < k → slice_get (history s past) j ≡ Some t → slice_get (history s past) k ≡ Some u →
    t.process ≡ u.process → t.number < u.number
