-- The turns of a line make what the line does.
use Rattle.std.proofs.Common.{◌≡◌, ℕ, zero, suc, ◌≤◌, Bool, true, false, nat_lt, List, [], ◌∷◌, refl, ap, sym, ◌∙◌, arith}
use Rattle.plain_store.specs.{Setup}
use Rattle.model.specs.{stage}
use Rattle.scenario.specs.{Line, Target}
use Rattle.scenario.specs.declared.lines.Line.TheVariants as line
use Rattle.scenario_run.specs.{Lacks, Run, Tires, Turn, ends, go_rest, go_turn, goes, happens, is_there, may_step, enabled, on_turn, once, past_in, picked, rest_of, run_after, step_turn, stepped, steps, turn_of, turns_in, wander_turn, wanders, with_happening}

-- with all its turns left, a line does all that it does
pub rest_whole : (s : Setup) (line : Line) (run : Run) → rest_of s line (turns_in line) run ≡ run_after s line run
rest_whole s (line.Call p command) run = refl
rest_whole s (line.Step p n) run = refl
rest_whole s (line.Go p target) run = refl
rest_whole s (line.Fail p) run = refl
rest_whole s (line.Withdraw p) run = refl
rest_whole s (line.Restart p) run = refl
rest_whole s (line.Flick flick) run = refl
rest_whole s (line.Wander n) run = refl
rest_whole s line.Show run = refl

-- with no turns left, a line does nothing
pub rest_none : (s : Setup) (line : Line) (run : Run) → rest_of s line 0 run ≡ run
rest_none s (line.Call p command) run = refl
rest_none s (line.Step p n) run = refl
rest_none s (line.Go p target) run = refl
rest_none s (line.Fail p) run = refl
rest_none s (line.Withdraw p) run = refl
rest_none s (line.Restart p) run = refl
rest_none s (line.Flick flick) run = refl
rest_none s (line.Wander n) run = refl
rest_none s line.Show run = refl

-- the run after the turns that a turn leaves
after_turn : Setup → Line → Turn → Run
after_turn s line turn = rest_of s line turn.remaining turn.run

-- a line that has only one turn
lone : (remaining : ℕ) (run : Run) (f : Run → Run) → suc remaining ≤ 1 → run ≡ once remaining run (f run)
lone zero run f few = refl
lone (suc remaining) run f few = absurd (omega (arith, few))

step_on : (s : Setup) (p n remaining : ℕ) (run : Run) → steps s p (suc remaining) run ≡ after_turn s (line.Step p n) (step_turn s p remaining run)
unfolding after_turn
step_on s p n remaining run = by (may_step s p run)
  where
    by : (b : Bool) → (elim b as (λ _. Run) [ true ↦ steps s p remaining (stepped p run) | false ↦ stepped p run ]) ≡ steps s p (elim b as (λ _. ℕ) [ true ↦ remaining | false ↦ 0 ]) (stepped p run)
    by true = refl
    by false = refl

wander_on : (s : Setup) (n remaining : ℕ) (run : Run) → wanders s (suc remaining) run ≡ after_turn s (line.Wander n) (wander_turn remaining run (enabled s (past_in s run)))
unfolding after_turn
wander_on s n remaining run = by (enabled s (past_in s run))
  where
    by : (ps : List ℕ) → (elim ps as (λ _. Run) [ [] ↦ run | p ∷ ps ↦ wanders s remaining (picked (p ∷ ps) run) ]) ≡ wanders s (wander_turn remaining run ps).remaining (wander_turn remaining run ps).run
    by [] = refl
    by (p ∷ ps) = refl

-- `go` of a process that exists and is not at its target
on_on : (s : Setup) (p : ℕ) (target : Target) (remaining : ℕ) (run : Run) → nat_lt p s.processes ≡ true → is_there target (stage p (past_in s run)) ≡ false → goes s p target remaining run ≡ go_rest s p target (on_turn s p remaining run).remaining (on_turn s p remaining run).run
on_on s p target zero run there away = ap (λ b. elim b as (λ _. Run) [ true ↦ run | false ↦ with_happening (Tires p) run ]) away
on_on s p target (suc remaining) run there away =
    ap (λ b. elim b as (λ _. Run) [ true ↦ run | false ↦ elim (may_step s p run) [ true ↦ goes s p target remaining (stepped p run) | false ↦ stepped p run ] ]) away
    ∙ by (may_step s p run)
  where
    by : (b : Bool) → (elim b as (λ _. Run) [ true ↦ goes s p target remaining (stepped p run) | false ↦ stepped p run ]) ≡ go_rest s p target (elim b as (λ _. ℕ) [ true ↦ suc remaining | false ↦ 0 ]) (stepped p run)
    by true = sym (ap (λ b. elim b as (λ _. Run) [ true ↦ goes s p target remaining (stepped p run) | false ↦ with_happening (Lacks p) (stepped p run) ]) there)
    by false = refl

go_on : (s : Setup) (p : ℕ) (target : Target) (remaining : ℕ) (run : Run) → go_rest s p target (suc remaining) run ≡ after_turn s (line.Go p target) (go_turn s p target remaining run)
unfolding after_turn
go_on s p target remaining run = by (nat_lt p s.processes) refl
  where
    turn : Bool → Bool → Turn
    turn b c = elim b as (λ _. Turn) [ false ↦ happens (Lacks p) 0 run | true ↦ elim c as (λ _. Turn) [ true ↦ ends run | false ↦ on_turn s p remaining run ] ]

    at : Bool
    at = is_there target (stage p (past_in s run))

    by : (b : Bool) → nat_lt p s.processes ≡ b → (elim b as (λ _. Run) [ true ↦ goes s p target remaining run | false ↦ with_happening (Lacks p) run ]) ≡ go_rest s p target (turn b at).remaining (turn b at).run
    by false h = refl
    by true h = on (is_there target (stage p (past_in s run))) refl
      where
        stays : (n : ℕ) → is_there target (stage p (past_in s run)) ≡ true → goes s p target n run ≡ run
        stays zero is = ap (λ b. elim b as (λ _. Run) [ true ↦ run | false ↦ with_happening (Tires p) run ]) is
        stays (suc n) is = ap (λ b. elim b as (λ _. Run) [ true ↦ run | false ↦ elim (may_step s p run) [ true ↦ goes s p target n (stepped p run) | false ↦ stepped p run ] ]) is

        on : (c : Bool) → is_there target (stage p (past_in s run)) ≡ c → goes s p target remaining run ≡ go_rest s p target (turn true c).remaining (turn true c).run
        on true is = stays remaining is
        on false is = on_on s p target remaining run h is

-- one turn, and the turns that it leaves
pub turn_on : (s : Setup) (line : Line) (remaining : ℕ) (run : Run) → remaining ≤ turns_in line → rest_of s line remaining run ≡ rest_of s line (turn_of s line remaining run).remaining (turn_of s line remaining run).run
unfolding after_turn
turn_on s line zero run few = refl
turn_on s (line.Call p command) (suc remaining) run few = lone remaining (run_after s (line.Call p command) run) (run_after s (line.Call p command)) few
turn_on s (line.Step p n) (suc remaining) run few = step_on s p n remaining run
turn_on s (line.Go p target) (suc remaining) run few = go_on s p target remaining run
turn_on s (line.Fail p) (suc remaining) run few = lone remaining (run_after s (line.Fail p) run) (run_after s (line.Fail p)) few
turn_on s (line.Withdraw p) (suc remaining) run few = lone remaining (run_after s (line.Withdraw p) run) (run_after s (line.Withdraw p)) few
turn_on s (line.Restart p) (suc remaining) run few = lone remaining (run_after s (line.Restart p) run) (run_after s (line.Restart p)) few
turn_on s (line.Flick flick) (suc remaining) run few = refl
turn_on s (line.Wander n) (suc remaining) run few = wander_on s n remaining run
turn_on s line.Show (suc remaining) run few = lone remaining (run_after s line.Show run) (run_after s line.Show) few

-- a turn never increases the number of turns left
step_turn_less : (s : Setup) (p remaining : ℕ) (run : Run) → (step_turn s p remaining run).remaining ≤ remaining
step_turn_less s p remaining run = by (may_step s p run)
  where
    by : (b : Bool) → (elim b as (λ _. ℕ) [ true ↦ remaining | false ↦ 0 ]) ≤ remaining
    by true = omega arith
    by false = omega arith

on_turn_less : (s : Setup) (p remaining : ℕ) (run : Run) → (on_turn s p remaining run).remaining ≤ remaining
on_turn_less s p zero run = omega arith
on_turn_less s p (suc remaining) run = step_turn_less s p (suc remaining) run

go_turn_less : (s : Setup) (p : ℕ) (target : Target) (remaining : ℕ) (run : Run) → (go_turn s p target remaining run).remaining ≤ remaining
go_turn_less s p target remaining run = by (nat_lt p s.processes) (is_there target (stage p (past_in s run)))
  where
    by : (b c : Bool) → (elim b as (λ _. Turn) [ false ↦ happens (Lacks p) 0 run | true ↦ elim c as (λ _. Turn) [ true ↦ ends run | false ↦ on_turn s p remaining run ] ]).remaining ≤ remaining
    by false c = omega arith
    by true true = omega arith
    by true false = on_turn_less s p remaining run

wander_turn_less : (remaining : ℕ) (run : Run) (ps : List ℕ) → (wander_turn remaining run ps).remaining ≤ remaining
wander_turn_less remaining run [] = omega arith
wander_turn_less remaining run (p ∷ ps) = omega arith

pub turn_less : (s : Setup) (line : Line) (remaining : ℕ) (run : Run) → (turn_of s line remaining run).remaining ≤ remaining
turn_less s line zero run = omega arith
turn_less s (line.Call p command) (suc remaining) run = omega arith
turn_less s (line.Step p n) (suc remaining) run = omega (arith, step_turn_less s p remaining run)
turn_less s (line.Go p target) (suc remaining) run = omega (arith, go_turn_less s p target remaining run)
turn_less s (line.Fail p) (suc remaining) run = omega arith
turn_less s (line.Withdraw p) (suc remaining) run = omega arith
turn_less s (line.Restart p) (suc remaining) run = omega arith
turn_less s (line.Flick flick) (suc remaining) run = omega arith
turn_less s (line.Wander n) (suc remaining) run = omega (arith, wander_turn_less remaining run (enabled s (past_in s run)))
turn_less s line.Show (suc remaining) run = omega arith
