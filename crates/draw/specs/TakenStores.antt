-- What the commands that marks take change in the one-thread store. Of marks, each with its process, the newest comes first.
use Rattle.std.specs.Prelude.{◌≡◌, ◌<◌, ℕ, ◌+◌, ◌==◌, Bool, true, cond, min, nat_lt, List, [], ◌∷◌, get_or, length, Option, None}
use Rattle.model.specs.plain_store.{Contents, Setup, after, opening_store}
use Rattle.model.specs.plain_store.declared.commands.Command.TheVariants.{Ask}
use Rattle.model.specs.{Mark}
use Rattle.model.specs.declared.marks.Mark.TheVariants as mark
use Rattle.picture.specs.picture_layout.{places_marked}
use Rattle.draw.specs.StoreChanges.{Changed, change_by}
use Rattle.draw.specs.declared.taken_store.LastCall.{LastCall}
use Rattle.draw.specs.declared.taken_store.TakenStore.{TakenStore}

-- the number of the next call: in version 2 they are counted, as far as 16 bits count; in version 1 each has 0
abbrev pub next_number : Setup → ℕ → ℕ
next_number s n = cond (s.version == 2) (min (n + 1) 65535) 0

-- the last call of a process after a mark, which may be its own
abbrev pub call_after : Setup → Bool → Mark → LastCall → LastCall
call_after s true (mark.Called c) call = record { command = c; number = next_number s call.number }
call_after s own _ call = call

-- the last call of a process; before the first one, as if it had asked
abbrev pub no_call : LastCall
no_call = record { command = Ask; number = 0 }

abbrev pub called_by : Setup → ℕ → List (ℕ × Mark) → LastCall
called_by s p [] = no_call
called_by s p ((q, mark) ∷ before) = call_after s (p == q) mark (called_by s p before)

-- the store after the command of a call
abbrev pub after_call : ℕ → LastCall → Contents → Contents
after_call p call store = after store call.command (record { process = p; number = call.number })

-- the store after a mark of a process, which called last so: a command of a process that is there is applied where it is taken
abbrev pub store_with : Setup → ℕ → LastCall → Mark → Contents → Contents
store_with s p call (mark.Taken k r) store = cond (nat_lt p s.processes) (after_call p call store) store
store_with s p call _ store = store

-- the store after marks
abbrev pub store_by : Setup → List (ℕ × Mark) → Contents
store_by s [] = opening_store s
store_by s ((p, mark) ∷ before) = store_with s p (called_by s p before) mark (store_by s before)

-- what the command of a call changes in a store, if it changes something
abbrev pub change_by_call : ℕ → LastCall → Contents → Option Changed
change_by_call p call store = change_by store call.command (record { process = p; number = call.number })

-- what the command of a mark changes, if it takes one and the process is there
abbrev pub change_with : Setup → ℕ → LastCall → Mark → Contents → Option Changed
change_with s p call (mark.Taken k r) store = cond (nat_lt p s.processes) (change_by_call p call store) None
change_with s p call _ store = None

-- what the next mark changes
abbrev pub change_of : Setup → List (ℕ × Mark) → ℕ → Mark → Option Changed
change_of s before p mark = change_with s p (called_by s p before) mark (store_by s before)

-- how many commands marks take, as far as 64 bits count
abbrev pub taken_by : List (ℕ × Mark) → ℕ
taken_by [] = 0
taken_by ((p, mark) ∷ before) = places_marked (taken_by before) mark

-- the store is the one after these marks, with the last call of each process and the number of commands taken
pub record IsAfterMarks (s : Setup) (before : List (ℕ × Mark)) (c : TakenStore) : Type 0 where
  pub version : c.version ≡ s.version
  pub many : length c.calls.items ≡ s.processes
  pub store : c.store ≡ store_by s before
  pub taken : c.taken ≡ taken_by before
  pub calls : (p : ℕ) → p < s.processes → get_or c.calls.items p no_call ≡ called_by s p before
