-- The processes that have made a step in a round, and those that therefore have none to make after it.
use Rattle.std.specs.Prelude.{◌≡◌, ◌≢◌, ℕ, Bool, false, List}
use Rattle.plain_store.specs.{Setup}
use Rattle.model.specs.{Event}
use Rattle.model.specs.declared.events.Event.TheVariants.{Step}
use Rattle.sweeper.specs.declared.round_steps.RoundSteps.{RoundSteps}
use Rattle.sweeper.specs.declared.round_steps.RoundSteps.TheVariants.{NoProcess, One, Several}
use Rattle.sweeper.specs.Sweeps.{is_accepted}

-- the processes that have made a step, after one more step, of p
abbrev pub with_step : ℕ → RoundSteps → RoundSteps
with_step p NoProcess = One p
with_step p (One q) = Several
with_step p Several = Several

-- no process but p has a step to make
abbrev pub IsAlone : Setup → Bool → ℕ → List Event → Type 0
IsAlone s v p events = (q : ℕ) → q ≢ p → is_accepted s events (Step q v) ≡ false

-- no process but those that have made a step has one to make; if several have, this states nothing
abbrev pub OthersRest : Setup → Bool → RoundSteps → List Event → Type 0
OthersRest s v NoProcess events = (q : ℕ) → is_accepted s events (Step q v) ≡ false
OthersRest s v (One p) events = IsAlone s v p events
OthersRest s v Several events = Unit {0}
