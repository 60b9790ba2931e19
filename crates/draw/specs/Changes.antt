-- What the commands of a history change in the store: so say the lines of a run's marks, which know no history.
use Rattle.std.specs.Prelude.{◌≡◌, ℕ, ◌∷◌, List, map, slice_get, take, Option, None, Some, Ok}
use Rattle.model.specs.plain_store.{Contents, Setup, after, checked}
use Rattle.model.specs.{Entry, Event, Mark, Taken, entry_of, history, past_of, store_after}
use Rattle.model.specs.declared.marks.Mark.TheVariants as mark
use Rattle.draw.specs.Items.{Says, SaysMark, marks_back, says_marks}
use Rattle.draw.specs.StoreChanges.{Changed, change_by}
use Rattle.draw.specs.TakenStores.{store_by}

-- the store after a command taken
abbrev pub after_taken : Contents → Taken → Contents
after_taken store t = after store t.command (record { process = t.process; number = t.number })

-- what a command taken changes in a store, if it changes something
abbrev pub change_taken : Contents → Taken → Option Changed
change_taken store t = change_by store t.command (record { process = t.process; number = t.number })

-- what the command at a place of a history changes in the store that those before it leave
abbrev pub change_at : Setup → List Taken → ℕ → Option Changed
change_at s taken k = elim (slice_get taken k) [ None ↦ None | Some t ↦ change_taken (store_after s (take k taken)) t ]

-- what the command of a mark changes, if one is taken
abbrev pub change_in : Setup → List Taken → Mark → Option Changed
change_in s taken (mark.Taken k r) = change_at s taken k
change_in s taken _ = None

-- what a mark says, by the history with its command
abbrev pub says_mark : Setup → List Taken → ℕ → Mark → Says
says_mark s taken p mark = SaysMark p mark (change_in s taken mark)

-- The lines of the marks of each entry of a run say what the commands of the history change that they take.
abbrev pub LinesSayTheHistory : Type 0
LinesSayTheHistory = (s : Setup) → checked s ≡ Ok tt → (events : List Event) (event : Event) (e : Entry) → entry_of s (past_of s events) event ≡ Some e →
    says_marks s e.process (marks_back (past_of s events)) e.marks ≡ map (says_mark s (history s (e ∷ past_of s events)) e.process) e.marks

-- The store after the marks of a run is the one after its history.
abbrev pub StoreIsTheHistorys : Type 0
StoreIsTheHistorys = (s : Setup) → checked s ≡ Ok tt → (events : List Event) → store_by s (marks_back (past_of s events)) ≡ store_after s (history s (past_of s events))
