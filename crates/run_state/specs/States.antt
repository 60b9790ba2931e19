-- The state after the first events of a scenario's run, and what an observer stores of it.
use Rattle.std.specs.Prelude.{◌≡◌, ◌-◌, ◌<◌, ◌≤◌, ◌^◌, ℕ, if◌then◌else◌, List, [], ◌∷◌, ◌++◌, codes, drop, length, Option, None, Some, option_map, Result, Ok, Err}
use Rattle.std.specs.Str.{bytes_eq}
use Rattle.plain_store.specs.{Setup}
use Rattle.model.specs.{Access, Entry, Past}
use Rattle.calls.specs.scenario.files.{FaultKind, LineFault, text_by}
use Rattle.calls.specs.scenario.{Script, line_numbers, number_at, scenario_of}
use Rattle.calls.specs.scenario_run.{Happening, IsMarked, TurnReport, entry_made, happenings, past_after, run_at_start}
use Rattle.calls.specs.world.process.{remaining_at, process_after}
use Rattle.run_state.specs.Processes.{count_line, newest_line}
use Rattle.run_state.specs.ObservedRuns.{HasObserved, state_lines}
use Rattle.run_state.specs.Making.{making_line}
use Rattle.calls.specs.Tables.{IsInTurn, past_with}
use Rattle.run_state.specs.declared.observer.StateObserver.{StateObserver}

-- The text.

-- the first n entries of a past; all, if there are fewer
abbrev pub first_of : ℕ → Past → Past
first_of n past = drop (length past - n) past

-- how many events there were, and the newest
abbrev pub head_lines : Past → List ℕ
head_lines past = count_line (length past) ++ newest_line past

-- the state after a past; `made`: the line that made the newest event
abbrev pub state_after : List ℕ → Setup → Past → List ℕ
state_after made s past = head_lines past ++ (made ++ state_lines s past)

-- the line that made the newest event of a past of a script, whose lines have these numbers
abbrev pub newest_made : List ℕ → Script → Past → List ℕ
newest_made numbers said past = making_line numbers said.setup (length past) run_at_start said.lines

-- the state after a past of such a script
abbrev pub state_of : List ℕ → Script → Past → List ℕ
state_of numbers said past = state_after (newest_made numbers said past) said.setup past

-- the state after the first n events of its run
abbrev pub stated : ℕ → List ℕ → Script → List ℕ
stated n numbers said = state_of numbers said (first_of n (past_after said.setup (happenings said)))

-- that state, where the lines have their numbers in a file
abbrev pub stated_in : ℕ → List ℕ → Script → List ℕ
stated_in n file said = stated n (line_numbers file (length said.lines)) said

-- the text of a file, or its fault
abbrev pub state_text : ℕ → List ℕ → Result (List ℕ) LineFault
state_text n file = text_by scenario_of (stated_in n file) file

-- After how many events a word asks for the state.

-- the number that a word means, if it means one
abbrev pub number_said : Result ℕ FaultKind → Option ℕ
number_said (Ok n) = Some n
number_said (Err kind) = None

-- `end` is more than a run can have
abbrev pub events_said : List ℕ → Option ℕ
events_said word = if bytes_eq word (codes "end") then Some (2 ^ 64 - 1) else number_said (number_at (2 ^ 64 - 1) word)

-- Observing.

-- the newest entry
abbrev pub newest : Past → Option Entry
newest [] = None
newest (e ∷ past) = Some e

-- the entry of a Step without a mark
abbrev pub unmarked_entry : ℕ → Option Access → Entry
unmarked_entry p access = record { process = p; access = access; marks = [] }

-- p added the newest entry by a Step within a register access, without a mark
pub record IsNewestWithin (s : Setup) (p : ℕ) (past : Past) : Type 0 where
  pub access : Access
  pub before : Past
  pub is : past ≡ unmarked_entry p (Some access) ∷ before
  pub within : 0 < remaining_at (process_after s before p)

-- the entry of the newest event that was reported
abbrev pub entry_reported : StateObserver → Option Entry
entry_reported observer = elim observer.stepped [
  | Some access ↦ Some (unmarked_entry observer.process (Some access))
  | None ↦ option_map entry_made observer.marked
]

-- These entries were observed. The newest was reported, or else it is a Step that has passed by since one was reported.
pub record HasSeen (s : Setup) (past : Past) (observer : StateObserver) : Type 0 where
  pub setup : observer.observed_run.setup ≡ s
  pub observed : HasObserved observer.observed_run past
  pub reported : observer.reported ≤ observer.observed_run.entries
  pub newest_is : observer.reported ≡ observer.observed_run.entries → newest past ≡ entry_reported observer
  pub passed : observer.reported < observer.observed_run.entries → IsNewestWithin s observer.process past

-- all that has happened between two moments was observed
abbrev pub Observes : StateObserver → Setup → List Happening → List Happening → StateObserver → Type 0
Observes old s before after new = HasSeen s (past_after s before) old → HasSeen s (past_after s after) new

-- a report is observed, after any past
abbrev pub ObservesReported : TurnReport → StateObserver → StateObserver → Type 0
ObservesReported answer old new = (s : Setup) (past : Past) → IsInTurn s past answer → IsMarked answer → HasSeen s past old → HasSeen s (past_with past answer) new
