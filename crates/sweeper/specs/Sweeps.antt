-- The runs of a sweep, and the verdicts of their records. In each run a process fails after one event of a list. Then its memory unit settles, the process is restarted, all processes continue, and calls follow. Lists of events have the newest first here, and a refused event adds nothing to the record.
use Rattle.std.specs.Prelude.{◌≡◌, ℕ, zero, suc, Bool, true, false, ◌&&◌, ◌||◌, List, [], ◌∷◌, ◌++◌, length, map, filter, fold, reverse, Option, None, Some, Ok, is_none, nat_lt, cond}
use Rattle.std.specs.List.{All, list_all, list_any, AllZip}
use Rattle.plain_store.specs.{Command, Setup, checked, is_command}
use Rattle.model.specs.{AreGiven, Entry, Event, KeepsMainTheoremThroughout, Stage, is_at_work, past_of, process_of, processes, refused, stage}
use Rattle.model.specs.declared.events.Event.TheVariants.{Call, Step, Fail, Restart}
use Rattle.model.specs.declared.stages.Stage.TheVariants.{Settling, Down}
use Rattle.auditor.specs.{IsVerdict, Law, Verdict}
use Rattle.auditor.specs.safe_monitor.declared.verdicts.Verdict.TheVariants.{Good, Bad}
use Rattle.sweeper.specs.declared.swept.BadRun.{BadRun}
use Rattle.sweeper.specs.declared.swept.Swept.{Swept}

-- One run.

-- the most rounds of a run, and the most steps of each of its calls
unfoldable pub most : ℕ
most = 65536

-- the event is accepted after these events
abbrev pub is_accepted : Setup → List Event → Event → Bool
is_accepted s events event = is_none (refused s (past_of s events) event)

-- the function `on`, repeated while the test holds, at most n times
abbrev pub as_long_as : (List Event → Bool) → (List Event → List Event) → ℕ → List Event → List Event
as_long_as test on zero events = events
as_long_as test on (suc n) events = cond (test events) (as_long_as test on n (on events)) events

-- steps of p by this flick while it has one to make, at most n. The steps of a call lead to `Idle`, those of a memory unit to `Down`.
abbrev pub steps_of : Setup → ℕ → Bool → ℕ → List Event → List Event
steps_of s p v n events = as_long_as (λ events. is_accepted s events (Step p v)) (λ events. Step p v ∷ events) n events

-- p fails, its memory unit makes its steps, and p is restarted. A memory unit has far fewer steps to make than the bound allows, so p is down by then.
abbrev pub cut_off : Setup → ℕ → Bool → List Event → List Event
cut_off s p v events = Restart p ∷ steps_of s p v most (Fail p ∷ events)

-- some process has a step to make
abbrev pub goes : Setup → Bool → List Event → Bool
goes s v events = list_any (λ p. is_accepted s events (Step p v)) (processes s)

-- a round: a step of each process, ascending; that of a process with none to make is refused
abbrev pub round : Setup → Bool → List Event → List Event
round s v events = fold (λ events p. Step p v ∷ events) events (processes s)

-- rounds while some process has a step to make, at most n
abbrev pub rounds : Setup → Bool → ℕ → List Event → List Event
rounds s v n events = as_long_as (goes s v) (round s v) n events

-- a run: its events, and whether it is stuck because it has met a limit
pub record Run : Type 0 where
  pub events : List Event
  pub stuck : Bool

-- a call, and if it is accepted the steps of its process
abbrev pub with_call : Setup → Bool → Run → ℕ × Command → Run
with_call s v run (p, command) =
    let after : List Event = steps_of s p v most (Call p command ∷ run.events) in
    cond (is_accepted s run.events (Call p command)) (record { events = after; stuck = run.stuck || is_accepted s after (Step p v) }) run

-- calls in their order
abbrev pub with_calls : Setup → List (ℕ × Command) → Bool → Run → Run
with_calls s calls v run = fold (with_call s v) run calls

-- all processes continue in rounds, and the calls follow
abbrev pub on_from : Setup → List (ℕ × Command) → Bool → List Event → Run
on_from s calls v events =
    let on : List Event = rounds s v most events in
    with_calls s calls v (record { events = on; stuck = goes s v on })

-- All runs.

-- a run with its cut: the number of the accepted event after which it is cut, counted from 0, and the flick by which it continues
pub record Cut : Type 0 where
  pub number : ℕ
  pub value : Bool
  pub run : Run

-- the run in which the process of an event fails after it
abbrev pub cut : Setup → List (ℕ × Command) → Event → List Event → Bool → Cut
cut s calls event before v = record { number = length (past_of s before); value = v; run = on_from s calls v (cut_off s (process_of event) v (event ∷ before)) }

-- the event is accepted, and its process may then fail: it has not failed and is not down
abbrev pub is_cut : Setup → Event → List Event → Bool
is_cut s event before = is_accepted s before event && is_accepted s (event ∷ before) (Fail (process_of event))

-- all runs; those of earlier events come first, and of the two after one event the one with the flick 0
abbrev pub cuts : Setup → List (ℕ × Command) → List Event → List Cut
cuts s calls [] = []
cuts s calls (event ∷ before) = cuts s calls before ++ cond (is_cut s event before) (map (cut s calls event before) (false ∷ true ∷ [])) []

-- The result.

-- the record of a run, the oldest entry first
abbrev pub record_of_cut : Setup → Cut → List Entry
record_of_cut s c = reverse (past_of s c.run.events)

-- the verdict is that the record is good
abbrev pub is_good : Verdict Law → Bool
is_good Good = true
is_good (Bad entry law) = false

-- the first run whose verdict is bad
abbrev pub first_bad_of : List Cut → List (Verdict Law) → Option BadRun
first_bad_of (c ∷ cs) (Good ∷ vs) = first_bad_of cs vs
first_bad_of (c ∷ cs) (Bad entry law ∷ vs) = Some (record { cut = c.number; value = c.value; entry = entry; law = law })
first_bad_of _ _ = None

-- the result of a sweep for these runs: the number of the runs, of the good ones and of the stuck ones, and the first bad one, by the verdict of each
pub record IsFound (s : Setup) (cs : List Cut) (found : Swept) : Type 0 where
  pub verdicts : List (Verdict Law)
  pub each : AllZip (λ c v. IsVerdict s (record_of_cut s c) v) cs verdicts
  pub runs : found.runs ≡ length cs
  pub good : found.good ≡ length (filter is_good verdicts)
  pub stuck : found.stuck ≡ length (filter (λ (c : Cut). c.run.stuck) cs)
  pub first_bad : found.first_bad ≡ first_bad_of cs verdicts

-- the result of a sweep of these events, the oldest first
abbrev pub IsSwept : Setup → List Event → List (ℕ × Command) → Swept → Type 0
IsSwept s events calls found = IsFound s (cuts s calls (reverse events)) found

-- each entry of each of these runs keeps the main theorem
abbrev pub KeepMainTheorem : Setup → List Cut → Type 0
KeepMainTheorem s cs = All (λ (c : Cut). KeepsMainTheoremThroughout s (past_of s c.run.events)) cs

-- each entry of each run of a sweep of these events, the oldest first, keeps the main theorem
abbrev pub SweptKeepMainTheorem : Setup → List Event → List (ℕ × Command) → Type 0
SweptKeepMainTheorem s events calls = KeepMainTheorem s (cuts s calls (reverse events))

-- every run is good
abbrev pub AreAllGood : Swept → Type 0
AreAllGood found = (found.good ≡ found.runs) × (found.first_bad ≡ None)

-- the result of these runs if all are good
abbrev pub all_good : List Cut → Swept
all_good cs = record { runs = length cs; good = length cs; stuck = length (filter (λ (c : Cut). c.run.stuck) cs); first_bad = None }

-- Every run of every sweep is good, if names, values and counts are in the range of their types.
abbrev pub SweptRunsAreGood : Type 0
SweptRunsAreGood = (s : Setup) → checked s ≡ Ok tt → (events : List Event) (calls : List (ℕ × Command)) → AreGiven s (reverse events) → list_all (λ (c : ℕ × Command). is_command c.1) calls ≡ true →
    (found : Swept) → IsSwept s events calls found → AreAllGood found

-- if p fails after these events, it is down when it is restarted
abbrev pub IsDownInTime : Setup → ℕ → Bool → List Event → Type 0
IsDownInTime s p v events = is_accepted s events (Fail p) ≡ true → stage p (past_of s (steps_of s p v most (Fail p ∷ events))) ≡ Down

-- A memory unit has made all its steps when its process is restarted, for all events before the failure.
abbrev pub UnitsAreDownInTime : Type 0
UnitsAreDownInTime = (s : Setup) → checked s ≡ Ok tt → (events : List Event) (p : ℕ) (v : Bool) → IsDownInTime s p v events

-- the process is down in time in each run that a sweep cuts
abbrev pub AreDownInTime : Setup → List Event → Type 0
AreDownInTime s [] = Unit {0}
AreDownInTime s (event ∷ before) = AreDownInTime s before × ((v : Bool) → IsDownInTime s (process_of event) v (event ∷ before))

-- a process has not failed and is not down
abbrev pub is_unfailed : Stage → Bool
is_unfailed Settling = false
is_unfailed Down = false
is_unfailed _ = true

-- the process exists, and its stage passes the test
abbrev pub is_there : (Stage → Bool) → Setup → List Event → ℕ → Bool
is_there test s events p = nat_lt p s.processes && test (stage p (past_of s events))

-- A step is accepted if and only if its process runs or its memory unit settles.
abbrev pub StepsAreOfEnabled : Type 0
StepsAreOfEnabled = (s : Setup) (events : List Event) (p : ℕ) (v : Bool) → is_accepted s events (Step p v) ≡ is_there is_at_work s events p

-- A failure is accepted if and only if its process has not failed and is not down.
abbrev pub FailsAreOfUnfailed : Type 0
FailsAreOfUnfailed = (s : Setup) (events : List Event) (p : ℕ) → is_accepted s events (Fail p) ≡ is_there is_unfailed s events p
