-- A run only adds to what has happened.
use Rattle.std.proofs.Common.{◌≡◌, ℕ, zero, suc, Bool, true, false, nat_lt, List, [], ◌∷◌, ◌++◌, refl, ap, sym, ◌∙◌, append_assoc}
use Rattle.plain_store.specs.{Setup}
use Rattle.model.specs.{stage}
use Rattle.scenario.specs.{Line, Target}
use Rattle.scenario.specs.declared.lines.Line.TheVariants as line
use Rattle.scenario_run.specs.{Happening, Lacks, Run, Tires, go_rest, goes, is_there, may_step, enabled, once, past_in, picked, rest_of, run_after, runs, stepped, steps, wanders, with_happening}

-- the later happenings are the earlier ones, and more
pub record Grows (before after : List Happening) : Type 0 where
  pub more : List Happening
  pub is : after ≡ more ++ before

pub grows_none : (before : List Happening) → Grows before before
grows_none before = record { more = []; is = refl }

pub grows_one : (before : List Happening) (this : Happening) → Grows before (this ∷ before)
grows_one before this = record { more = this ∷ []; is = refl }

pub grows_both : (a b c : List Happening) → Grows a b → Grows b c → Grows a c
grows_both a b c first next = record {
  more = next.more ++ first.more;
  is = next.is ∙ ap (λ l. next.more ++ l) first.is ∙ sym (append_assoc next.more first.more a);
}

steps_grow : (s : Setup) (p n : ℕ) (run : Run) → Grows run.happened (steps s p n run).happened
steps_grow s p zero run = grows_none run.happened
steps_grow s p (suc n) run = by (may_step s p run) (steps_grow s p n (stepped p run))
  where
    one : Grows run.happened (stepped p run).happened
    one = grows_one run.happened _

    by : (b : Bool) → Grows (stepped p run).happened (steps s p n (stepped p run)).happened → Grows run.happened (elim b as (λ _. Run) [ true ↦ steps s p n (stepped p run) | false ↦ stepped p run ]).happened
    by true more = grows_both run.happened (stepped p run).happened (steps s p n (stepped p run)).happened one more
    by false more = one

goes_grow : (s : Setup) (p : ℕ) (target : Target) (n : ℕ) (run : Run) → Grows run.happened (goes s p target n run).happened
goes_grow s p target zero run = by (is_there target (stage p (past_in s run)))
  where
    by : (b : Bool) → Grows run.happened (elim b as (λ _. Run) [ true ↦ run | false ↦ with_happening (Tires p) run ]).happened
    by true = grows_none run.happened
    by false = grows_one run.happened (Tires p)
goes_grow s p target (suc n) run = by (is_there target (stage p (past_in s run))) (may_step s p run) (goes_grow s p target n (stepped p run))
  where
    one : Grows run.happened (stepped p run).happened
    one = grows_one run.happened _

    by : (b c : Bool) → Grows (stepped p run).happened (goes s p target n (stepped p run)).happened →
        Grows run.happened (elim b as (λ _. Run) [ true ↦ run | false ↦ elim c as (λ _. Run) [ true ↦ goes s p target n (stepped p run) | false ↦ stepped p run ] ]).happened
    by true c more = grows_none run.happened
    by false true more = grows_both run.happened (stepped p run).happened (goes s p target n (stepped p run)).happened one more
    by false false more = one

wanders_grow : (s : Setup) (n : ℕ) (run : Run) → Grows run.happened (wanders s n run).happened
wanders_grow s zero run = grows_none run.happened
wanders_grow s (suc n) run = by (enabled s (past_in s run)) (λ ps. wanders_grow s n (picked ps run))
  where
    by : (ps : List ℕ) → ((qs : List ℕ) → Grows (picked qs run).happened (wanders s n (picked qs run)).happened) →
        Grows run.happened (elim ps as (λ _. Run) [ [] ↦ run | p ∷ ps ↦ wanders s n (picked (p ∷ ps) run) ]).happened
    by [] more = grows_none run.happened
    by (p ∷ ps) more = grows_both run.happened (picked (p ∷ ps) run).happened (wanders s n (picked (p ∷ ps) run)).happened (grows_one run.happened _) (more (p ∷ ps))

once_grows : (s : Setup) (remaining : ℕ) (run after : Run) → Grows run.happened after.happened → Grows run.happened (once remaining run after).happened
once_grows s zero run after grows = grows_none run.happened
once_grows s (suc remaining) run after grows = grows

go_grows : (s : Setup) (p : ℕ) (target : Target) (remaining : ℕ) (run : Run) → Grows run.happened (go_rest s p target remaining run).happened
go_grows s p target zero run = grows_none run.happened
go_grows s p target (suc remaining) run = by (nat_lt p s.processes)
  where
    by : (b : Bool) → Grows run.happened (elim b as (λ _. Run) [ true ↦ goes s p target remaining run | false ↦ with_happening (Lacks p) run ]).happened
    by true = goes_grow s p target remaining run
    by false = grows_one run.happened (Lacks p)

-- the turns that are left of a line
pub rest_grows : (s : Setup) (line : Line) (remaining : ℕ) (run : Run) → Grows run.happened (rest_of s line remaining run).happened
rest_grows s (line.Call p command) remaining run = once_grows s remaining run (run_after s (line.Call p command) run) (grows_one run.happened _)
rest_grows s (line.Step p n) remaining run = steps_grow s p remaining run
rest_grows s (line.Go p target) remaining run = go_grows s p target remaining run
rest_grows s (line.Fail p) remaining run = once_grows s remaining run (run_after s (line.Fail p) run) (grows_one run.happened _)
rest_grows s (line.Withdraw p) remaining run = once_grows s remaining run (run_after s (line.Withdraw p) run) (grows_one run.happened _)
rest_grows s (line.Restart p) remaining run = once_grows s remaining run (run_after s (line.Restart p) run) (grows_one run.happened _)
rest_grows s (line.Flick flick) remaining run = once_grows s remaining run (run_after s (line.Flick flick) run) (grows_none run.happened)
rest_grows s (line.Wander n) remaining run = wanders_grow s remaining run
rest_grows s line.Show remaining run = once_grows s remaining run (run_after s line.Show run) (grows_one run.happened _)

-- a whole line, and a list of lines
pub line_grows : (s : Setup) (line : Line) (run : Run) → Grows run.happened (run_after s line run).happened
line_grows s (line.Call p command) run = grows_one run.happened _
line_grows s (line.Step p n) run = steps_grow s p n run
line_grows s (line.Go p target) run = go_grows s p target 65537 run
line_grows s (line.Fail p) run = grows_one run.happened _
line_grows s (line.Withdraw p) run = grows_one run.happened _
line_grows s (line.Restart p) run = grows_one run.happened _
line_grows s (line.Flick flick) run = grows_none run.happened
line_grows s (line.Wander n) run = wanders_grow s n run
line_grows s line.Show run = grows_one run.happened _

pub lines_grow : (s : Setup) (lines : List Line) (run : Run) → Grows run.happened (runs s lines run).happened
lines_grow s [] run = grows_none run.happened
lines_grow s (line ∷ lines) run = grows_both run.happened (run_after s line run).happened (runs s lines (run_after s line run)).happened (line_grows s line run) (lines_grow s lines (run_after s line run))
