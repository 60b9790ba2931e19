-- The counts so far, and the invariant of a sweep between two events.
use Rattle.std.specs.Prelude.{◌≡◌, ℕ, ◌+◌, ◌*◌, ◌^◌, ◌<◌, ◌≤◌, Bool, List, [], ◌∷◌, ◌++◌, length, filter, Option, None, Some, cond, is_none, option_map}
use Rattle.std.specs.List.{All}
use Rattle.std.proofs.Common.{arith}
use Rattle.plain_store.specs.{Command, Setup}
use Rattle.model.specs.{Event, past_of, process_of}
use Rattle.auditor.specs.{AllKeep}
use Rattle.sweeper.specs.declared.audited_run.BadEntry.{BadEntry}
use Rattle.sweeper.specs.declared.swept.BadRun.{BadRun}
use Rattle.sweeper.specs.declared.swept.Swept.{Swept}
use Rattle.sweeper.specs.declared.sweeping.Sweeper.{Sweeper}
use Rattle.sweeper.specs.Known.{AreKnown, AreOfSetup}
use Rattle.sweeper.specs.Runners.{Follows, due}
use Rattle.sweeper.specs.Sweeps.{Cut, KeepMainTheorem, cut, cuts}

-- in these runs each entry keeps all laws and the main theorem, and the counts are those of the runs
pub record Counts (s : Setup) (cs : List Cut) (found : Swept) : Type 0 where
  pub good : All (λ (c : Cut). AllKeep s (past_of s c.run.events)) cs
  pub main_theorem : KeepMainTheorem s cs
  pub runs : found.runs ≡ length cs
  pub all : found.good ≡ length cs
  pub stuck : found.stuck ≡ length (filter (λ (c : Cut). c.run.stuck) cs)
  pub none_bad : found.first_bad ≡ None

-- the first bad entry of a run, and where the run is cut
abbrev pub bad_run : ℕ → Bool → BadEntry → BadRun
bad_run number value bad = record { cut = number; value = value; entry = bad.entry; law = bad.law }

-- the counts with one more run, which may be stuck and may have a first bad entry
abbrev pub counted : Swept → ℕ → Bool → Bool → Option BadEntry → Swept
counted found number value stuck bad = record {
  runs = found.runs + 1;
  good = found.good + cond (is_none bad) 1 0;
  stuck = found.stuck + cond stuck 1 0;
  first_bad = elim found.first_bad as (λ _. Option BadRun) [ Some first ↦ Some first | None ↦ option_map (bad_run number value) bad ];
}

-- each count has room for one more run
pub record AreFew (found : Swept) : Type 0 where
  pub runs : found.runs ≤ 2 ^ 58
  pub good : found.good ≤ 2 ^ 58
  pub stuck : found.stuck ≤ 2 ^ 58

-- after these events: the walker shows them, the other runner has the same setup, the outcomes are known, and these runs are counted
pub record HasSwept (s : Setup) (calls : List (ℕ × Command)) (before : List Event) (cs : List Cut) (sweeper : Sweeper) : Type 0 where
  pub follows : Follows sweeper.walker before
  pub walker_setup : sweeper.walker.core.setup ≡ s
  pub runner_setup : sweeper.runner.core.setup ≡ s
  pub known : AreKnown s calls sweeper.known
  pub counts : Counts s cs sweeper.found

-- the sweeper has taken these events, and these calls ended each run that is cut after one of them
abbrev pub SweptBy : Setup → List (ℕ × Command) → List Event → Sweeper → Type 0
SweptBy s calls before sweeper = HasSwept s calls before (cuts s calls before) sweeper

-- the sweeper has taken no event, for all calls that are to follow
abbrev pub SweepsNone : Setup → Sweeper → Type 0
SweepsNone s sweeper = (calls : List (ℕ × Command)) → SweptBy s calls [] sweeper

-- the sweeper takes one more event
abbrev pub SweepsOn : List (ℕ × Command) → Event → Sweeper → Sweeper → Type 0
SweepsOn calls event sweeper then = (s : Setup) (before : List Event) → SweptBy s calls before sweeper → SweptBy s calls (event ∷ before) then

-- P holds of all events that the sweeper has taken
abbrev pub OfSweep : Sweeper → (Setup → List (ℕ × Command) → List Event → Type 0) → Type 0
OfSweep sweeper P = (s : Setup) (calls : List (ℕ × Command)) (before : List Event) → SweptBy s calls before sweeper → P s calls before

-- the sweeper has room for `more` more events: with those before they are at most 2^56, and so are the calls
pub record CanSweep (calls : List (ℕ × Command)) (more : ℕ) (sweeper : Sweeper) : Type 0 where
  pub setup : Setup
  pub before : List Event
  pub swept : SweptBy setup calls before sweeper
  pub few_events : length before + more ≤ 2 ^ 56
  pub few_calls : length calls ≤ 2 ^ 56

-- the sweeper then has room for fewer events
pub can_sweep_less : (calls : List (ℕ × Command)) (sweeper : Sweeper) (n k : ℕ) → n ≤ k → CanSweep calls k sweeper → CanSweep calls n sweeper
can_sweep_less calls sweeper n k fewer room = record { setup = room.setup; before = room.before; swept = room.swept; few_events = omega (arith, fewer, room.few_events); few_calls = room.few_calls }

-- the sweeper has room for 2^56 events, each before at most 2^56 calls
abbrev pub RoomAtFirst : Sweeper → Type 0
RoomAtFirst sweeper = (calls : List (ℕ × Command)) → length calls ≤ 2 ^ 56 → CanSweep calls (2 ^ 56) sweeper

-- the sweeper has room for one more run
pub record CanRun (calls : List (ℕ × Command)) (sweeper : Sweeper) : Type 0 where
  pub setup : sweeper.runner.core.setup ≡ sweeper.walker.core.setup
  pub known : AreOfSetup sweeper.walker.core.setup sweeper.known
  pub due : due sweeper.walker + 16 * length calls + 16 < 2 ^ 64
  pub few : AreFew sweeper.found

-- the sweeper counts the run in which the process of the last event fails, and that continues by this flick
abbrev pub CountsRun : ℕ → Bool → List (ℕ × Command) → Sweeper → Sweeper → Type 0
CountsRun p v calls sweeper then =
    (s : Setup) (event : Event) (before : List Event) (cs : List Cut) → p ≡ process_of event → HasSwept s calls (event ∷ before) cs sweeper → HasSwept s calls (event ∷ before) (cs ++ cut s calls event before v ∷ []) then
