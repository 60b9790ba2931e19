-- The stamp that a process has read is the number of changes that were taken before its command.
use Rattle.std.specs.Prelude.{◌≡◌, ℕ, ◌<◌, ◌∷◌, Option, None, Some, IsTrue}
use Rattle.plain_store.specs.{Setup, opening_store}
use Rattle.model.specs.{AsksImage, EachEntry, EachPastGiven, Part, Past, WritesCommit, WritesImage, WritesStamp, count_changes, history, inside, newest_stamp}
use Rattle.laws.specs.{Doing, Runs, doing}

-- the number of changes that were taken
abbrev pub changes_taken : Setup → Past → ℕ
changes_taken s past = count_changes (opening_store s) (history s past)

-- the greatest stamp of the versions that were read, at a part after all versions were read
abbrev pub stamp_at : Part → Option ℕ
stamp_at (AsksImage versions) = Some (newest_stamp versions)
stamp_at (WritesImage versions store) = Some (newest_stamp versions)
stamp_at (WritesStamp versions store) = Some (newest_stamp versions)
stamp_at (WritesCommit versions store) = Some (newest_stamp versions)
stamp_at _ = None

-- the greatest stamp that a process read, if its call has read all versions and has not taken its command
abbrev pub stamp_read : Doing → Option ℕ
stamp_read (Runs command number at) = stamp_at at.part
stamp_read _ = None

-- The stamp that a process has read is the number of changes that were taken, until it takes its command.
abbrev pub StampsCountTheChanges : Type 0
StampsCountTheChanges = EachPastGiven λ s past. (p stamp : ℕ) → p < s.processes → stamp_read (doing s p past) ≡ Some stamp → stamp ≡ changes_taken s past

-- While a process is inside, the entries of the other processes do not change the history.
abbrev pub HistoryStaysWhileInside : Type 0
HistoryStaysWhileInside = EachEntry λ s past e. (p : ℕ) → IsTrue (inside p past) → (p ≡ e.process → ⊥) → history s (e ∷ past) ≡ history s past
