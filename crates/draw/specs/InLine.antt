-- A process that enters is the first in the line of tickets, as lines show it.
use Rattle.std.specs.Prelude.{◌≡◌, ◌⊎◌, ◌<◌, ℕ, List, ◌∷◌, flat_map, fold, Contains, IsTrue, Ok, Some}
use Rattle.model.specs.plain_store.{Setup, checked}
use Rattle.model.specs.{Entry, Event, Stage, entry_of, has, is_entered, past_of}
use Rattle.model.specs.declared.stages.Stage.TheVariants.{Inside, Leaving, Settling}
use Rattle.picture.specs.{Item, line_contents, state_after}
use Rattle.picture.specs.picture_layout.{LineContent, State, at_first, before_in, marks_in, marks_said, queue_of, stage_among, state_reported}

-- the state of all processes after these lines of a run
abbrev pub state_of_lines : ℕ → List LineContent → State
state_of_lines processes = fold state_reported (at_first processes)

-- a process with a ticket that no longer waits: it leaves, because it gave up, or its memory unit clears up, because it failed
abbrev pub WaitsNoMore : Stage → Type 0
WaitsNoMore stage = (stage ≡ Leaving) ⊎ (stage ≡ Settling)

-- Each process before p in the line of tickets no longer waits.
abbrev pub IsFirstInLine : State → ℕ → Type 0
IsFirstInLine state p = (q : ℕ) → Contains (before_in p (queue_of state)) q → WaitsNoMore (stage_among state.stages q)

-- Where lines say the marks of a record up to an entry with which a process enters, that process is first in line.
abbrev pub WhoEntersIsFirst : Type 0
WhoEntersIsFirst = (s : Setup) → checked s ≡ Ok tt → (events : List Event) (event : Event) (e : Entry) → entry_of s (past_of s events) event ≡ Some e → IsTrue (has is_entered e) →
    (lines : List LineContent) → flat_map marks_said lines ≡ marks_in (e ∷ past_of s events) → IsFirstInLine (state_of_lines s.processes lines) e.process

-- Where lines say the marks of a record, each process that is inside, by the stages after these lines, is first in line.
abbrev pub WhoIsInsideIsFirst : Type 0
WhoIsInsideIsFirst = (s : Setup) → checked s ≡ Ok tt → (events : List Event) (lines : List LineContent) → flat_map marks_said lines ≡ marks_in (past_of s events) →
    (p : ℕ) → p < s.processes → stage_among (state_of_lines s.processes lines).stages p ≡ Inside → IsFirstInLine (state_of_lines s.processes lines) p

-- So it is first in the line from which a picture draws its bars and the words in them, once such lines are among its items.
abbrev pub WhoIsInsideIsDrawnFirst : Type 0
WhoIsInsideIsDrawnFirst = (s : Setup) → checked s ≡ Ok tt → (events : List Event) (items : List Item) → flat_map marks_said (line_contents items) ≡ marks_in (past_of s events) →
    (p : ℕ) → p < s.processes → stage_among (state_after (at_first s.processes) items).stages p ≡ Inside →
    IsFirstInLine (state_after (at_first s.processes) items) p
