-- A run that is audited while it is made.
use Rattle.std.specs.Prelude.{◌≡◌, ℕ, ◌+◌, ◌||◌, Bool, List, length, Option, None, Ok}
use Rattle.plain_store.specs.{Command, Setup, checked}
use Rattle.model.specs.{AreGiven, Event, history, past_of}
use Rattle.world.specs.{CoreState, pending_in, with_history}
use Rattle.world.specs.Shows.{Shows}
use Rattle.auditor.specs.{AuditorState, HasObserved}
use Rattle.sweeper.specs.declared.audited_run.BadEntry.{BadEntry}
use Rattle.sweeper.specs.Sweeps.{Run, cut_off, goes, is_accepted, most, rounds, with_call, with_calls}

-- a core, its auditor, and the number of commands taken
pub record RunnerState : Type 0 where
  pub core : CoreState
  pub auditor : AuditorState
  pub taken : ℕ

-- the runner shows a run: its core is that of the world that shows these events, and its auditor has observed their whole record without a broken law
pub record Follows (r : RunnerState) (events : List Event) : Type 0 where
  pub shows : Shows (with_history r.core (history r.core.setup (past_of r.core.setup events))) events
  pub observed : HasObserved r.auditor (past_of r.core.setup events)
  pub alike : r.auditor.core.setup ≡ r.core.setup
  pub taken : r.taken ≡ length (history r.core.setup (past_of r.core.setup events))

-- the invariant of a runner: it shows some run, and has found no bad entry
pub record KeepsRunner (count : ℕ) (bad : Option BadEntry) (r : RunnerState) : Type 0 where
  pub events : List Event
  pub follows : Follows r events
  pub processes : count ≡ r.core.setup.processes
  pub none_bad : bad ≡ None

-- the number of commands that were taken or may still be taken
abbrev pub due : RunnerState → ℕ
due r = r.taken + pending_in r.core.seats

-- the runner has continued each run that it showed by this function
abbrev pub RunsOn : RunnerState → RunnerState → (List Event → List Event) → Type 0
RunsOn old new on = (events : List Event) → Follows old events → Follows new (on events)

-- the runner has continued each run by this function of its setup
abbrev pub RunsBy : RunnerState → RunnerState → (Setup → List Event → List Event) → Type 0
RunsBy old new on = RunsOn old new (on old.core.setup)

-- P holds of each run that the runner shows
abbrev pub OfRun : RunnerState → (Setup → List Event → Type 0) → Type 0
OfRun r P = (events : List Event) → Follows r events → P r.core.setup events

-- `reported` is whether the event is accepted
abbrev pub Accepts : RunnerState → Event → Bool → Type 0
Accepts r event reported = OfRun r (λ s events. reported ≡ is_accepted s events event)

-- the runner shows this run, which has met a limit or not
pub record IsRun (r : RunnerState) (met : Bool) (run : Run) : Type 0 where
  pub follows : Follows r run.events
  pub stuck : met ≡ run.stuck

-- the runner has continued each run that it showed with a call, and `met` is whether the call met a limit
abbrev pub MakesCall : RunnerState → ℕ → Command → Bool → Bool → RunnerState → Type 0
MakesCall r p command v met then = (run : Run) → Follows r run.events → IsRun then (run.stuck || met) (with_call r.core.setup v run (p, command))

-- the runner has made several calls; `met` is whether the run met a limit before or during them
abbrev pub MakesCalls : RunnerState → (before : Bool) → List (ℕ × Command) → Bool → Bool → RunnerState → Type 0
MakesCalls r before calls v met then = (run : Run) → IsRun r before run → IsRun then met (with_calls r.core.setup calls v run)

-- p fails and is restarted, and all processes continue
abbrev pub at_rest : Setup → ℕ → Bool → List Event → List Event
at_rest s p v events = rounds s v most (cut_off s p v events)

-- calls that are made after these events
abbrev pub ended : Setup → List (ℕ × Command) → Bool → List Event → Run
ended s calls v events = with_calls s calls v (record { events = events; stuck = goes s v events })

-- the runner has ended each run that it showed by these calls, and `met` is whether the run is stuck
abbrev pub MakesEnd : RunnerState → List (ℕ × Command) → Bool → Bool → RunnerState → Type 0
MakesEnd r calls v met then = OfRun r (λ s events. IsRun then met (ended s calls v events))

-- a run whose events are given, and `met` is whether it is stuck
pub record HasEnded (s : Setup) (met : Bool) (run : Run) : Type 0 where
  pub good : checked s ≡ Ok tt
  pub given : AreGiven s run.events
  pub stuck : met ≡ run.stuck
