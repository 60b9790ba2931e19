-- `go`: a Step without a mark leaves the process in its stage, so the process is not at its target until a Step has marks.
use Rattle.std.proofs.Common.{◌≡◌, ℕ, zero, suc, arith, ◌<◌, true, false, nat_lt, List, Some, refl, ap, sym, subst, ◌∙◌, inl, inr}
use Rattle.plain_store.specs.{Setup}
use Rattle.model.specs.{Event, Stage, past_of, stage}
use Rattle.scenario.specs.declared.lines.Line.TheVariants as line
use Rattle.scenario.specs.{Target}
use Rattle.world.specs.{stage_in}
use Rattle.world.specs.choices.{FlickState}
use Rattle.world.specs.Shows.{Shows, WorldState}
use Rattle.scenario_run.specs.{ComesOn, ComesTo, ScenarioRunState, Follows, Happening, IsAlone, IsAway, Lacks, QuietTurns, Run, Reports, Tires, Turn, scenario_run, ends, go_turn, happens, is_there, on_turn, past_in, tried, turn_of}
use Rattle.scenario_run.specs.declared.reports.TurnReport.TheVariants as reported
use Rattle.scenario_run.proofs.ScenarioRunTurns.{stage_reported}

-- if a process is not at its target, a turn of `go` is a Step or the last turn
away_turn : (s : Setup) (p : ℕ) (target : Target) (remaining : ℕ) (run : Run) → IsAway s p target run → go_turn s p target remaining run ≡ on_turn s p remaining run
away_turn s p target remaining run is =
    ap (λ b. elim b as (λ _. Turn) [ false ↦ happens (Lacks p) 0 run | true ↦ elim (is_there target (stage p (past_in s run))) [ true ↦ ends run | false ↦ on_turn s p remaining run ] ]) is.there
    ∙ ap (λ b. elim b as (λ _. Turn) [ true ↦ ends run | false ↦ on_turn s p remaining run ]) is.away

-- as long as two turns are left, the turn is a Step
pub go_steps : (s : Setup) (p steps : ℕ) (target : Target) (remaining : ℕ) (run : Run) → IsAway s p target run → 1 < remaining → turn_of s (line.Go p target) remaining run ≡ turn_of s (line.Step p steps) remaining run
go_steps s p steps target zero run is more = absurd (omega (arith, more))
go_steps s p steps target (suc zero) run is more = absurd (omega (arith, more))
go_steps s p steps target (suc (suc remaining)) run is more = away_turn s p target (suc remaining) run is

-- a process is not at its target if the stage that the world returns is not
pub is_away : (w : WorldState) (p : ℕ) (target : Target) (at : Stage) → is_there target at ≡ false → ((events : List Event) → Shows w events → Some at ≡ stage_in w.setup (past_of w.setup events) p) →
    (flicks : FlickState) (remaining : ℕ) (run : Run) → Follows (scenario_run w flicks remaining) run → IsAway w.setup p target run
is_away w p target at elsewhere some flicks remaining run follows =
    let there : (nat_lt p w.setup.processes ≡ true) × (stage p (past_in w.setup run) ≡ at) = stage_reported w p at (tried run.happened) follows.shows (sym (some (tried run.happened) follows.shows)) in
    record { there = there.0; away = ap (is_there target) there.1 ∙ elsewhere }

-- a process that has made all the Steps
pub go_tires : {L : Type 0} (Observes : L → Setup → List Happening → List Happening → L → Type 0) (s : Setup) (p : ℕ) (target : Target) (had : ℕ) (start : Run) (was is : L) (mid : ScenarioRunState) → mid.remaining ≡ 1 → ComesOn Observes s (line.Go p target) had start was is mid (IsAlone p 1) →
    ComesTo Observes s (line.Go p target) had start was is 1 (Some (reported.Tired p)) (scenario_run mid.world mid.flicks 0)
go_tires Observes s p target had start was is mid last u = by (away u.next)
  where
    away : IsAlone p 1 s (line.Go p target) u.now → IsAway s p target u.now
    away (inl (steps, same)) = absurd (cc)
    away (inr (other, same, is, few)) = let at : other ≡ target = cc in subst (λ target. IsAway s p target u.now) at is

    by : IsAway s p target u.now → ComesTo Observes s (line.Go p target) had start was is 1 (Some (reported.Tired p)) (scenario_run mid.world mid.flicks 0)
    by far = record {
      quiet = u.quiet;
      now = u.now;
      turns = subst (λ n. QuietTurns s (line.Go p target) u.quiet had start n u.now) last u.turns;
      observes = u.observes;
      reports = subst (λ (t : Turn). Reports s (past_in s u.now) t.this (Some (reported.Tired p))) (sym turn) (refl, tt);
      follows = subst (λ (t : Turn). Follows (scenario_run mid.world mid.flicks 0) t.run) (sym turn) (record { shows = u.follows.shows; flicks = u.follows.flicks });
      remaining_is = subst (λ (t : Turn). 0 ≡ t.remaining) (sym turn) refl;
      setup = u.setup;
    }
      where
        turn : go_turn s p target 0 u.now ≡ happens (Tires p) 0 u.now
        turn = away_turn s p target 0 u.now far
