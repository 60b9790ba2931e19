-- The work of a process determines its stage, and whether it may step or fail.
use Rattle.std.proofs.Common.{◌≡◌, ℕ, ◌<◌, Bool, true, false, cond, List, None, Some, refl, sym, ap, ◌∙◌, arith}
use Rattle.plain_store.specs.{Setup}
use Rattle.model.specs.{Event, Past, Stage, is_running, own, past_of, refused_at, stage}
use Rattle.model.specs.declared.events.Event.TheVariants as event
use Rattle.model.specs.declared.Refusal.TheVariants.{NotRunning}
use Rattle.model.specs.declared.stages.Stage.TheVariants as stages
use Rattle.model.proofs.Width.{IsGood}
use Rattle.laws.specs.{Doing, Rests, Lies, Runs, Closes, doing}
use Rattle.laws.proofs.Doings.{stage_of}
use Rattle.laws.proofs.Frame.{Does, at_rest, lying, running, leaving, settling}
use Rattle.laws.proofs.FrameEvents.{does_all}
use Rattle.laws.proofs.FrameInside.{stage-is}
use Rattle.process.specs.{ProcessState, remaining_at, may_step, refusal_of, stage_doing}

-- the stage of the work
stage-doing : (d : Doing) → stage_doing d ≡ stage_of d
stage-doing Rests = refl
stage-doing Lies = refl
stage-doing (Runs command number at) = refl
stage-doing (Closes command number at) = refl

-- the stage of a process of a record
pub stage-process : (s : Setup) → IsGood s → (events : List Event) (p : ℕ) → stage_doing (doing s p (past_of s events)) ≡ stage p (past_of s events)
stage-process s g events p = stage-doing (doing s p (past_of s events)) ∙ sym (stage-is s g events p)

-- a step of a process that runs, or closes its call, is not refused
running-steps : (p : ℕ) (flick : Bool) (st : Stage) → is_running st ≡ true → refused_at (event.Step p flick) st ≡ None
running-steps p flick stages.Idle h = cc
running-steps p flick stages.Doorway h = refl
running-steps p flick stages.Waiting h = refl
running-steps p flick stages.Inside h = refl
running-steps p flick stages.Leaving h = refl
running-steps p flick stages.Settling h = cc
running-steps p flick stages.Down h = cc

-- a step is refused if the process has none to make
pub step-refused : (s : Setup) → IsGood s → (events : List Event) (p : ℕ) (flick : Bool) → refused_at (event.Step p flick) (stage p (past_of s events)) ≡ cond (may_step (doing s p (past_of s events))) None (Some NotRunning)
step-refused s g events p flick = go (does_all s g events p)
  where
    past : Past
    past = past_of s events

    by : (d : Doing) (b : Bool) → doing s p past ≡ d → may_step d ≡ b → refused_at (event.Step p flick) (stage p past) ≡ cond b None (Some NotRunning) → refused_at (event.Step p flick) (stage p past) ≡ cond (may_step (doing s p past)) None (Some NotRunning)
    by d b is may h = h ∙ sym (ap (λ b. cond b None (Some NotRunning)) (ap may_step is ∙ may))

    go : Does s p (own p past) (stage p past) (doing s p past) → refused_at (event.Step p flick) (stage p past) ≡ cond (may_step (doing s p past)) None (Some NotRunning)
    go (at_rest st d) = by _ false d refl (ap (refused_at (event.Step p flick)) st)
    go (lying st d) = by _ false d refl (ap (refused_at (event.Step p flick)) st)
    go (running command b r d) = by _ true d refl (running-steps p flick (stage p past) r)
    go (leaving b st d) = by _ true d refl (ap (refused_at (event.Step p flick)) st)
    go (settling b st d) = by _ true d refl (ap (refused_at (event.Step p flick)) st)

-- a process that does not refuse a step may make it
pub step-allowed : (p : ℕ) (flick : Bool) (now : ProcessState) → refusal_of now (event.Step p flick) ≡ None → may_step now.doing ≡ true
step-allowed p flick now h = go now.doing h
  where
    go : (d : Doing) → refusal_of (record now { doing = d }) (event.Step p flick) ≡ None → may_step d ≡ true
    go Rests h = cc
    go Lies h = cc
    go (Runs command number at) h = refl
    go (Closes command number at) h = refl

-- a process within a register access has a step to make
pub remaining-may : (now : ProcessState) → 0 < remaining_at now → may_step now.doing ≡ true
remaining-may now some = go now.doing refl
  where
    none : (d : Doing) → now.doing ≡ d → (n : ℕ) → remaining_at (record now { doing = d }) ≡ n → 0 < n
    none d is n h = let all : remaining_at now ≡ n = ap (λ d. remaining_at (record now { doing = d })) is ∙ h in omega (arith, some, all)

    go : (d : Doing) → now.doing ≡ d → may_step now.doing ≡ true
    go Rests is = absurd (omega (arith, none Rests is 0 refl))
    go Lies is = absurd (omega (arith, none Lies is 0 refl))
    go (Runs command number at) is = ap may_step is
    go (Closes command number at) is = ap may_step is
