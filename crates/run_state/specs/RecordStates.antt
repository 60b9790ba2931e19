-- The state after the first entries of a record, by the laws of this project's lock.
use Rattle.std.specs.Prelude.{◌≡◌, ℕ, List, [], ◌∷◌, ◌++◌, codes, reverse, take, Ok, Result, Some}
use Rattle.plain_store.specs.{Setup, checked}
use Rattle.model.specs.{AreGiven, Entry, Event, past_of}
use Rattle.judge.specs.Ends.{TrialEnds}
use Rattle.judge.specs.Firsts.{ReportsFirsts}
use Rattle.judge.specs.Judgements.{status_of_verdict, verdict_line}
use Rattle.judge.specs.ReasonLines.{number_line}
use Rattle.judge.specs.auditor.{IsVerdict, Law, Verdict}
use Rattle.judge.specs.files.Engines.{Streams}
use Rattle.judge.specs.files.{Fault}
use Rattle.judge.specs.safe_monitor.declared.verdicts.Verdict.TheVariants.{Good, Bad}
use Rattle.judge.specs.safe_monitor.{law_text}
use Rattle.run_state.specs.States.{first_of, state_after}

-- the items of the good entries: all, or those before the first bad entry
abbrev pub good_ones : {A : Type 0} → Verdict Law → List A → List A
good_ones Good items = items
good_ones (Bad k l) items = take k items

-- the line of the newest entry, by the numbers of the lines, the newest first
abbrev pub line_of_newest : List ℕ → List ℕ
line_of_newest [] = []
line_of_newest (n ∷ numbers) = number_line (codes "line") n

-- the line of the first bad entry, if there is one: its number and the first law that it breaks
abbrev pub bad_line : Verdict Law → List ℕ
bad_line Good = []
bad_line (Bad k l) = verdict_line law_text k (Bad k l)

-- the state after some entries of a record
abbrev pub recorded_state : Setup → List Entry → List ℕ → List ℕ
recorded_state s entries numbers = state_after (line_of_newest (reverse numbers)) s (reverse entries)

-- The state after these entries of a record, which are in the lines with these numbers. If one of them is bad, it is the state
-- before the first bad entry, and the line of that entry follows.
pub record ReportsState (s : Setup) (entries : List Entry) (numbers reported : List ℕ) (status : ℕ) : Type 0 where
  pub verdict : Verdict Law
  pub is : IsVerdict s entries verdict
  pub state : reported ≡ recorded_state s (good_ones verdict entries) (good_ones verdict numbers) ++ bad_line verdict
  pub answer : status ≡ status_of_verdict verdict

-- How `state` ends on a record: with the state after the first n entries of the record in the whole input, or with its fault.
abbrev pub StateEnds : ℕ → Result ℕ Fault → Streams → Streams → Type 0
StateEnds n = TrialEnds (ReportsFirsts (Some n) ReportsState)

-- The record of each run has, after n entries, the state of the run after n events, except for the line of the newest one.
abbrev pub RecordsHaveStatesOfRuns : Type 0
RecordsHaveStatesOfRuns = (s : Setup) → checked s ≡ Ok tt → (events : List Event) → AreGiven s events → (n : ℕ) (numbers reported : List ℕ) (status : ℕ) →
    ReportsFirsts (Some n) ReportsState s (reverse (past_of s events)) numbers reported status →
    (reported ≡ state_after (line_of_newest (reverse (take n numbers))) s (first_of n (past_of s events))) × (status ≡ 0)
