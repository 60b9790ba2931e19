-- The memory unit of a run has made its steps when its process is restarted.
use Rattle.std.proofs.Common.{◌≡◌, ℕ, zero, suc, ◌+◌, ◌≤◌, ◌&&◌, nat_lt, Bool, true, cond, List, [], ◌∷◌, length, Option, None, Some, Ok, refl, ap, sym, ◌∙◌, arith, inl, inr, eq-eqb}
use Rattle.std.specs.Prelude.{is_none}
use Rattle.std.proofs.lemmas.Bool.{and_parts}
use Rattle.plain_store.specs.{Setup, checked}
use Rattle.model.specs.{Entry, Event, Past, Refusal, Stage, added, is_at_work, is_failed, own, past_of, process_of, refused, since, stage}
use Rattle.model.specs.declared.events.Event.TheVariants.{Step, Fail}
use Rattle.model.specs.declared.marks.Mark.TheVariants.{Failed}
use Rattle.model.specs.declared.stages.Stage.TheVariants as stages
use Rattle.auditor.proofs.laws.UnitSteps.{GoesOn, few_accesses, unit_goes_on}
use Rattle.sweeper.specs.{AreDownInTime, UnitsAreDownInTime, is_accepted, most, is_unfailed, steps_of}
use Rattle.sweeper.proofs.Going.{ended}
use Rattle.sweeper.proofs.Enabled.{fails_of_unfailed, steps_of_enabled}

-- the number of accesses that the unit of p has made
abbrev pub made_by : Setup → ℕ → List Event → ℕ
made_by s p events = length (since is_failed (own p (past_of s events)))

none_of : (o : Option Refusal) → is_none o ≡ true → o ≡ None
none_of None h = refl
none_of (Some r) h = cc

-- a step of p at a stage
step_at : (s : Setup) (events : List Event) (p : ℕ) (v : Bool) (x : Stage) → nat_lt p s.processes ≡ true → stage p (past_of s events) ≡ x → is_accepted s events (Step p v) ≡ is_at_work x
step_at s events p v x there at = steps_of_enabled s events p v ∙ ap (λ b. b && is_at_work (stage p (past_of s events))) there ∙ ap is_at_work at

-- a unit that has at most n steps left reaches its end
unit_ends : (s : Setup) → checked s ≡ Ok tt → (p : ℕ) (v : Bool) → nat_lt p s.processes ≡ true → (n : ℕ) (events : List Event) → stage p (past_of s events) ≡ stages.Settling → 1088 ≤ made_by s p events + n →
    stage p (past_of s (steps_of s p v n events)) ≡ stages.Down
unit_ends s good p v there zero events settles enough = let few = few_accesses s good events p settles in absurd (omega (arith, few, enough))
unit_ends s good p v there (suc n) events settles enough =
    ap (λ (l : List Event). stage p (past_of s l)) whole ∙ by (unit_ends s good p v there n on) (unit_goes_on s good events p v (none_of (refused s (past_of s events) (Step p v)) accepts) settles)
  where
    on : List Event
    on = Step p v ∷ events

    accepts : is_accepted s events (Step p v) ≡ true
    accepts = step_at s events p v stages.Settling there settles

    whole : steps_of s p v (suc n) events ≡ steps_of s p v n on
    whole = ap (λ b. cond b (steps_of s p v n on) events) accepts

    by : (stage p (past_of s on) ≡ stages.Settling → 1088 ≤ made_by s p on + n → stage p (past_of s (steps_of s p v n on)) ≡ stages.Down) → GoesOn s p events on → stage p (past_of s (steps_of s p v n on)) ≡ stages.Down
    by more (inl down) = ap (λ (l : List Event). stage p (past_of s l)) (ended (λ events. is_accepted s events (Step p v)) (λ events. Step p v ∷ events) n on (step_at s on p v stages.Down there down)) ∙ down
    by more (inr still) = let one : made_by s p on ≡ suc (made_by s p events) = still.1 in more still.0 (omega (arith, enough, one))

-- after a failure
failed_past : (s : Setup) (events : List Event) (p : ℕ) → refused s (past_of s events) (Fail p) ≡ None → past_of s (Fail p ∷ events) ≡ record { process = p; access = None; marks = Failed ∷ [] } ∷ past_of s events
failed_past s events p is = ap (λ (o : Option Refusal). elim (elim o as (λ _. Option Entry) [ Some r ↦ None | None ↦ added s (past_of s events) (Fail p) ]) as (λ _. Past) [ None ↦ past_of s events | Some e ↦ e ∷ past_of s events ]) is

far_enough : 1088 ≤ most
unfolding most
far_enough = omega arith

pub down_in_time : UnitsAreDownInTime
down_in_time s good events p v may = unit_ends s good p v there most (Fail p ∷ events) settles (omega (arith, far_enough))
  where
    past : Past
    past = past_of s events

    e : Entry
    e = record { process = p; access = None; marks = Failed ∷ [] }

    there : nat_lt p s.processes ≡ true
    there = (and_parts (nat_lt p s.processes) (is_unfailed (stage p past)) (sym (fails_of_unfailed s events p) ∙ may)).0

    after : past_of s (Fail p ∷ events) ≡ e ∷ past
    after = failed_past s events p (none_of (refused s past (Fail p)) may)

    settles : stage p (past_of s (Fail p ∷ events)) ≡ stages.Settling
    settles = ap (stage p) after ∙ ap (λ b. cond b stages.Settling (stage p past)) (eq-eqb p p refl)

-- in each run of a sweep
pub all_down : (s : Setup) → checked s ≡ Ok tt → (events : List Event) → AreDownInTime s events
all_down s good [] = tt
all_down s good (event ∷ before) = (all_down s good before, λ v. down_in_time s good (event ∷ before) (process_of event) v)
