-- The outcomes that a sweep keeps. Each is that of all runs whose core is alike: equal, except for flags of registers that no read uses.
use Rattle.std.specs.Prelude.{◌≡◌, ℕ, Bool, Contains, List, Some, None}
use Rattle.std.specs.List.{All, list_all}
use Rattle.plain_store.specs.{Command, Setup, is_command}
use Rattle.model.specs.{Event, history, past_of}
use Rattle.world.specs.{AreAlikeCores, CoreState, with_history}
use Rattle.world.specs.Shows.{Shows}
use Rattle.sweeper.specs.declared.known_outcomes.KnownOutcome.{KnownOutcome}
use Rattle.sweeper.specs.Runners.{HasEnded, OfRun, RunnerState, ended}

-- a run of these events has this core
abbrev pub HasCore : CoreState → List Event → Type 0
HasCore core events = Shows (with_history core (history core.setup (past_of core.setup events))) events

-- a run whose core is alike and that makes these calls by this flick is stuck then, or is not
abbrev pub EndsFrom : CoreState → List (ℕ × Command) → Bool → Bool → Type 0
EndsFrom core calls v stuck = (other : CoreState) (events : List Event) → AreAlikeCores core other → HasCore other events → (ended other.setup calls v events).stuck ≡ stuck

-- the outcome, if there is one, is that of each run whose core is alike, which continues by its flick and ends by these calls
pub record IsKnown (s : Setup) (calls : List (ℕ × Command)) (known : KnownOutcome) : Type 0 where
  pub setup : known.core.setup ≡ s
  pub outcome : (stuck : Bool) → known.stuck ≡ Some stuck → EndsFrom known.core calls known.value stuck

-- one of the outcomes is that of a core that is alike, and of this flick
pub record HasOutcome (known : List KnownOutcome) (core : CoreState) (v stuck : Bool) : Type 0 where
  pub of : KnownOutcome
  pub among : Contains known of
  pub alike : AreAlikeCores of.core core
  pub value : of.value ≡ v
  pub outcome : of.stuck ≡ Some stuck

-- all outcomes are known
abbrev pub AreKnown : Setup → List (ℕ × Command) → List KnownOutcome → Type 0
AreKnown s calls known = All (IsKnown s calls) known

-- no run has ended yet
pub record IsUnknown (s : Setup) (known : KnownOutcome) : Type 0 where
  pub setup : known.core.setup ≡ s
  pub none : known.stuck ≡ None

abbrev pub AreUnknown : Setup → List KnownOutcome → Type 0
AreUnknown s known = All (IsUnknown s) known

-- each core has this setup
abbrev pub AreOfSetup : Setup → List KnownOutcome → Type 0
AreOfSetup s known = All (λ (known : KnownOutcome). known.core.setup ≡ s) known

-- each run that the runner showed ends in this way, if the outcomes are known
abbrev pub EndsRun : RunnerState → List KnownOutcome → List (ℕ × Command) → Bool → Bool → Type 0
EndsRun r known calls v met = AreKnown r.core.setup calls known → OfRun r (λ s events. HasEnded s met (ended s calls v events))

-- the runner showed a run, and if the old outcomes are known, so are the new ones
abbrev pub LearnsFrom : RunnerState → List (ℕ × Command) → List KnownOutcome → List KnownOutcome → Type 0
LearnsFrom r calls old new = OfRun r (λ s events. AreKnown s calls old → AreKnown s calls new)

-- each call of the list has a command in range
abbrev pub are_commands : List (ℕ × Command) → Bool
are_commands calls = list_all (λ (c : ℕ × Command). is_command c.1) calls
