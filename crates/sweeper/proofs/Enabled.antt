-- The processes whose steps and whose failures are accepted.
use Rattle.std.proofs.Common.{◌≡◌, ℕ, ◌&&◌, nat_lt, Bool, true, false, cond, Option, None, Some, refl}
use Rattle.std.specs.Prelude.{is_none}
use Rattle.model.specs.declared.events.Event.TheVariants.{Step, Fail}
use Rattle.model.specs.{Refusal, Stage, is_at_work, past_of, refused_at, stage}
use Rattle.model.specs.declared.refusals.Refusal.TheVariants.{CallsFull, NoProcess}
use Rattle.model.specs.declared.stages.Stage.TheVariants as stages
use Rattle.sweeper.specs.{FailsAreOfUnfailed, StepsAreOfEnabled, is_unfailed}

-- an event that is not a call is refused by the stage of its process alone
by_stage : Bool → Option Refusal → Bool
by_stage there refusal = is_none (cond there (elim refusal as (λ _. Option Refusal) [ Some r ↦ Some r | None ↦ cond false (Some CallsFull) None ]) (Some NoProcess))

step_by : (p : ℕ) (v : Bool) (there : Bool) (x : Stage) → by_stage there (refused_at (Step p v) x) ≡ (there && is_at_work x)
unfolding by_stage
step_by p v false x = refl
step_by p v true stages.Idle = refl
step_by p v true stages.Down = refl
step_by p v true stages.Settling = refl
step_by p v true stages.Doorway = refl
step_by p v true stages.Waiting = refl
step_by p v true stages.Inside = refl
step_by p v true stages.Leaving = refl

fail_by : (p : ℕ) (there : Bool) (x : Stage) → by_stage there (refused_at (Fail p) x) ≡ (there && is_unfailed x)
unfolding by_stage
fail_by p false x = refl
fail_by p true stages.Idle = refl
fail_by p true stages.Down = refl
fail_by p true stages.Settling = refl
fail_by p true stages.Doorway = refl
fail_by p true stages.Waiting = refl
fail_by p true stages.Inside = refl
fail_by p true stages.Leaving = refl

pub steps_of_enabled : StepsAreOfEnabled
unfolding by_stage
steps_of_enabled s events p v = step_by p v (nat_lt p s.processes) (stage p (past_of s events))

pub fails_of_unfailed : FailsAreOfUnfailed
unfolding by_stage
fails_of_unfailed s events p = fail_by p (nat_lt p s.processes) (stage p (past_of s events))
