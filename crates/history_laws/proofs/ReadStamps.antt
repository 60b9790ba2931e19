-- The greatest stamp that a process has read is the number of changes.
use Rattle.std.proofs.Common.{◌≡◌, ℕ, ◌<◌, Bool, true, false, List, [], ◌∷◌, Some, None, Ok, refl, sym, ap, ◌∙◌}
use Rattle.std.specs.Prelude.{IsTrue}
use Rattle.plain_store.specs.{Setup, checked, opening_store}
use Rattle.model.specs.{AreGiven, Entry, Event, Mark, Part, Past, Run, Version, count_changes, entry_of, has, history, inside, newest_stamp, past_of, processes, reply_taken}
use Rattle.model.specs.declared.marks.Mark.TheVariants as mark
use Rattle.model.specs.Parts as part
use Rattle.model.proofs.Width.{IsGood}
use Rattle.laws.specs.{Doing, Runs, call, doing, is_taken}
use Rattle.laws.proofs.Alone.{alone}
use Rattle.laws.proofs.Always.{inv_of}
use Rattle.laws.proofs.Invariant.{touches, wires}
use Rattle.laws.proofs.Takings.{taken_inside}
use Rattle.history_laws.proofs.CountedChanges.{count_is, history-none}
use Rattle.history_laws.proofs.DataAlways.{data_of}
use Rattle.history_laws.proofs.Kept.{Data, KnowsAt, KnowsData}
use Rattle.history_laws.proofs.Versions.{store_of, versions, versions_of}
use Rattle.history_laws.proofs.VersionsRead as read
use Rattle.history_laws.specs.{stamp_at, stamp_read}

one : (n m : ℕ) → Some n ≡ Some m → n ≡ m
one n m h = cc

pub stamps_count : (s : Setup) → checked s ≡ Ok tt → (events : List Event) → AreGiven s events → (p stamp : ℕ) → p < s.processes → stamp_read (doing s p (past_of s events)) ≡ Some stamp → stamp ≡ count_changes (opening_store s) (history s (past_of s events))
stamps_count s good events given p stamp below h = at (doing s p past) (kept_data.knows p below) h
  where
    past : Past
    past = past_of s events

    kept_data : Data s past
    kept_data = data_of s good events given

    counted : (vs : List Version) → vs ≡ versions_of (versions s past) (processes s) → Some (newest_stamp vs) ≡ Some stamp → stamp ≡ count_changes (opening_store s) (history s past)
    counted vs is h = sym (one (newest_stamp vs) stamp h) ∙ ap newest_stamp is ∙ read.stamp_read s (versions s past) (store_of s past) _ (wires s past) kept_data.kept ∙ count_is s past

    at_part : (command : Rattle.plain_store.specs.declared.Command.Command) (number : ℕ) (x : Part) (run : Run) → KnowsAt s past (call s p command number) (versions s past) (store_of s past) (wires s past p) (λ o. touches s past o p) x run → stamp_at x ≡ Some stamp →
        stamp ≡ count_changes (opening_store s) (history s past)
    at_part command number (part.AsksImage vs) run k h = counted vs k.0 h
    at_part command number (part.WritesImage vs st) run k h = counted vs k.versions_read h
    at_part command number (part.WritesStamp vs st) run k h = counted vs k.0.versions_read h
    at_part command number (part.WritesCommit vs st) run k h = counted vs k.0.versions_read h
    at_part command number _ run k h = cc

    at : (d : Doing) → KnowsData s past p (versions s past) (store_of s past) (wires s past p) (λ o. touches s past o p) d → stamp_read d ≡ Some stamp → stamp ≡ count_changes (opening_store s) (history s past)
    at (Runs command number here) k h = at_part command number here.part here.run k h
    at _ k h = cc

-- no command is taken with these marks
none_taken : (marks : List Mark) → Rattle.std.specs.List.list_any is_taken marks ≡ false → reply_taken marks ≡ None
none_taken [] h = refl
none_taken (mark.Taken k r ∷ marks) h = cc
none_taken (mark.Called c ∷ marks) h = none_taken marks h
none_taken (mark.Waiting t ∷ marks) h = none_taken marks h
none_taken (mark.Entered ∷ marks) h = none_taken marks h
none_taken (mark.Left ∷ marks) h = none_taken marks h
none_taken (mark.Answered a ∷ marks) h = none_taken marks h
none_taken (mark.Failed ∷ marks) h = none_taken marks h
none_taken (mark.Settled v ∷ marks) h = none_taken marks h
none_taken (mark.Down ∷ marks) h = none_taken marks h
none_taken (mark.Withdrew ∷ marks) h = none_taken marks h
none_taken (mark.Restarted ∷ marks) h = none_taken marks h

pub history_unchanged : (s : Setup) → IsGood s → (events : List Event) (event : Event) (e : Entry) → entry_of s (past_of s events) event ≡ Some e → (p : ℕ) → IsTrue (inside p (past_of s events)) → (p ≡ e.process → ⊥) → history s (e ∷ past_of s events) ≡ history s (past_of s events)
history_unchanged s g events event e is p inside_ other = by (has is_taken e) refl
  where
    by : (b : Bool) → has is_taken e ≡ b → history s (e ∷ past_of s events) ≡ history s (past_of s events)
    by true h = absurd (other (alone s g (inv_of s g) events e.process (taken_inside s g events event e is h) p inside_))
    by false h = history-none s (past_of s events) e (none_taken e.marks h)
