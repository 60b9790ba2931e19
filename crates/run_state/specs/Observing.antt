-- What an observer of a record stores of its entries.
use Rattle.std.specs.Prelude.{◌≡◌, ◌<◌, ℕ, List, [], ◌∷◌, ◌++◌, length, reverse, Option, None, Some, option_map}
use Rattle.plain_store.specs.{Reply, Setup}
use Rattle.model.specs.{Access, Entry, Mark, Past, Taken, history, reply_taken}
use Rattle.calls.specs.world.process.{process_after}
use Rattle.judge.specs.Judging.{HasJudged}
use Rattle.run_state.specs.Keeping.{ReportsNumber}
use Rattle.run_state.specs.Processes.{newest_line}
use Rattle.run_state.specs.RecordStates.{good_ones, line_of_newest}
use Rattle.run_state.specs.ObservedRuns.{HasObserved}
use Rattle.run_state.specs.declared.record_observer.GoodEntries.{GoodEntries}
use Rattle.run_state.specs.declared.record_observer.NewestEntry.{NewestEntry}
use Rattle.run_state.specs.declared.record_observer.RecordStateObserver.{RecordStateObserver}

-- the newest entry and the number of its line
abbrev pub newest_stored : List ℕ → Past → Option NewestEntry
newest_stored (n ∷ numbers) (e ∷ past) = Some (record { line = n; entry = e })
newest_stored _ _ = None

-- the lines of the newest entry: the entry, and the number of its line
abbrev pub newest_lines : Option NewestEntry → List ℕ
newest_lines None = []
newest_lines (Some newest) = newest_line (newest.entry ∷ []) ++ line_of_newest (newest.line ∷ [])

-- what a process takes with these marks after a past, if they take a command
abbrev pub taken_with : Setup → Past → ℕ → List Mark → Option Taken
taken_with s past p marks =
    option_map (λ (reply : Reply). record { process = p; command = (process_after s past p).command; reply = reply; number = (process_after s past p).number }) (reply_taken marks)

-- an entry may come next after a past: its process exists, and it has marks or an access, before which `read` was read of the
-- number that it reads
pub record IsNext (s : Setup) (past : Past) (e : Entry) (read : ℕ) : Type 0 where
  pub process : e.process < s.processes
  pub unmarked : e.marks ≡ [] → (a : Access) × (e.access ≡ Some a) × ReportsNumber s past e.process a read

-- these entries, which are in the lines with these numbers, were observed
pub record IsStored (g : GoodEntries) (s : Setup) (entries : List Entry) (numbers : List ℕ) : Type 0 where
  pub observed_run : g.observed_run.setup ≡ s
  pub observed : HasObserved g.observed_run (reverse entries)
  pub newest : g.newest ≡ newest_stored (reverse numbers) (reverse entries)
  pub taken : g.taken.items ≡ history s (reverse entries)

-- One more entry, which is in line n, was stored: `read` was read before it, and with it its process takes this command.
abbrev pub StoresNext : GoodEntries → GoodEntries → ℕ → Entry → ℕ → Option Taken → Type 0
StoresNext old new n e read taken = (s : Setup) (entries : List Entry) (numbers : List ℕ) → IsNext s (reverse entries) e read →
    taken ≡ taken_with s (reverse entries) e.process e.marks → IsStored old s entries numbers → IsStored new s (entries ++ e ∷ []) (numbers ++ n ∷ [])

-- These entries were judged, and the good ones of them were stored.
pub record HasObservedRecord (o : RecordStateObserver) (s : Setup) (entries : List Entry) (numbers : List ℕ) : Type 0 where
  pub setup : o.setup ≡ s
  pub counted : length numbers ≡ length entries
  pub judged : HasJudged o.judge s entries
  pub stores : IsStored o.good s (good_ones o.judge.verdict entries) (good_ones o.judge.verdict numbers)
