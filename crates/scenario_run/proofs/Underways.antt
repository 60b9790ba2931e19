-- The happenings after a turn, and the report of the turn.
use Rattle.std.proofs.Common.{◌≡◌, ℕ, zero, suc, Bool, true, false, nat_lt, List, [], ◌∷◌, Option, None, Some, refl, subst}
use Rattle.plain_store.specs.{Setup}
use Rattle.model.specs.{Past, stage}
use Rattle.scenario.specs.{Line, Target}
use Rattle.scenario.specs.declared.lines.Line.TheVariants as line
use Rattle.scenario_run.specs.{Happening, IsMarked, Lacks, Run, Reports, ReportsOf, TurnReport, Turn, ends, go_turn, happens, is_there, enabled, on_turn, past_in, turn_of, wander_turn}
pub use Rattle.scenario_run.proofs.Counting.{with_events}

-- after a turn there is one happening more; or there is none, and the line has ended
pub data Turned (turn : Turn) (before : List Happening) : Type 0 where
  One : (this : Happening) → turn.this ≡ Some this → turn.run.happened ≡ this ∷ before → Turned turn before
  Nothing : turn.this ≡ None → turn.remaining ≡ 0 → turn.run.happened ≡ before → Turned turn before

on_turned : (s : Setup) (p remaining : ℕ) (run : Run) → Turned (on_turn s p remaining run) run.happened
on_turned s p zero run = One _ refl refl
on_turned s p (suc remaining) run = One _ refl refl

go_turned : (s : Setup) (p : ℕ) (target : Target) (remaining : ℕ) (run : Run) → Turned (go_turn s p target remaining run) run.happened
go_turned s p target remaining run = by (nat_lt p s.processes) (is_there target (stage p (past_in s run)))
  where
    by : (b c : Bool) → Turned (elim b as (λ _. Turn) [ false ↦ happens (Lacks p) 0 run | true ↦ elim c as (λ _. Turn) [ true ↦ ends run | false ↦ on_turn s p remaining run ] ]) run.happened
    by false c = One _ refl refl
    by true true = Nothing refl refl refl
    by true false = on_turned s p remaining run

wander_turned : (remaining : ℕ) (run : Run) (ps : List ℕ) → Turned (wander_turn remaining run ps) run.happened
wander_turned remaining run [] = Nothing refl refl refl
wander_turned remaining run (p ∷ ps) = One _ refl refl

pub turned : (s : Setup) (line : Line) (remaining : ℕ) (run : Run) → Turned (turn_of s line remaining run) run.happened
turned s line zero run = Nothing refl refl refl
turned s (line.Call p command) (suc remaining) run = One _ refl refl
turned s (line.Step p n) (suc remaining) run = One _ refl refl
turned s (line.Go p target) (suc remaining) run = go_turned s p target remaining run
turned s (line.Fail p) (suc remaining) run = One _ refl refl
turned s (line.Withdraw p) (suc remaining) run = One _ refl refl
turned s (line.Restart p) (suc remaining) run = One _ refl refl
turned s (line.Flick flick) (suc remaining) run = Nothing refl refl refl
turned s (line.Wander n) (suc remaining) run = wander_turned remaining run (enabled s (past_in s run))
turned s line.Show (suc remaining) run = One _ refl refl

-- a report is one of what happens in the turn
pub reported_one : (s : Setup) (past : Past) (o : Option Happening) (this : Happening) (answer : TurnReport) → o ≡ Some this → Reports s past o (Some answer) → ReportsOf s past this answer × IsMarked answer
reported_one s past o this answer is reports = subst (λ o. Reports s past o (Some answer)) is reports

pub reported_none : (s : Setup) (past : Past) (o : Option Happening) (answer : TurnReport) → o ≡ None → Reports s past o (Some answer) → ⊥
reported_none s past o answer is reports = subst (λ o. Reports s past o (Some answer)) is reports

pub silent_one : (s : Setup) (past : Past) (o : Option Happening) (this : Happening) → o ≡ Some this → Reports s past o None → ⊥
silent_one s past o this is reports = subst (λ o. Reports s past o None) is reports
