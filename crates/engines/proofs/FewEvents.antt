-- The number of events that a run tries is limited, and their commands are well formed.
use Rattle.std.proofs.Common.{◌≡◌, ℕ, zero, suc, ◌+◌, ◌*◌, ◌≤◌, nat_le, nat_lt, Bool, true, false, List, [], ◌∷◌, length, Option, None, Some, refl, arith}
use Rattle.std.proofs.lemmas.Bool.{and_from, and_parts}
use Rattle.std.proofs.lemmas.Bool.Decides.{nat_tests}
use Rattle.std.specs.List.{list_all}
use Rattle.plain_store.specs.{Setup, is_command}
use Rattle.scenario_run.specs.model.{Event, Refusal, is_event, past_of, refused, stage}
use Rattle.scenario_run.specs.model.declared.events.Event.TheVariants as event
use Rattle.scenario.specs.{Line, Target, is_line, is_line_of}
use Rattle.scenario.specs.declared.lines.Line.TheVariants as line
use Rattle.scenario_run.specs.{Lacks, Run, Tires, accepted, after_pick_in, go_limit, goes, is_there, may_step, enabled, next_step, past_in, pick_among, picked, run_after, runs, stepped, steps, tried, wanders, with_happening}

-- the events that a run has tried
abbrev pub tries : Run → List Event
tries run = tried run.happened

-- at most this number of events, whose commands are well formed
pub record AreFew (most : ℕ) (events : List Event) : Type 0 where
  pub few : length events ≤ most
  pub given : list_all is_event events ≡ true

more : (n m : ℕ) (events : List Event) → n ≤ m → AreFew n events → AreFew m events
more n m events up are = let few : length events ≤ n = are.few in record { few = omega (arith, few, up); given = are.given }

one_more : (n : ℕ) (what : Event) (events : List Event) → is_event what ≡ true → AreFew n events → AreFew (n + 1) (what ∷ events)
one_more n what events good are = let few : length events ≤ n = are.few in record { few = omega (arith, few); given = and_from (is_event what) (list_all is_event events) good are.given }

step_few : (p n : ℕ) (run : Run) → AreFew n (tries run) → AreFew (n + 1) (tries (stepped p run))
step_few p n run are = one_more n (next_step p run) (tries run) refl are

steps_few : (s : Setup) (p k n : ℕ) (run : Run) → AreFew n (tries run) → AreFew (n + k) (tries (steps s p k run))
steps_few s p zero n run are = more n (n + 0) (tries run) (omega arith) are
steps_few s p (suc k) n run are = by (may_step s p run) (steps_few s p k (n + 1) (stepped p run) (step_few p n run are))
  where
    by : (b : Bool) → AreFew (n + 1 + k) (tries (steps s p k (stepped p run))) → AreFew (n + suc k) (tries (elim b as (λ _. Run) [ true ↦ steps s p k (stepped p run) | false ↦ stepped p run ]))
    by true rest = more (n + 1 + k) (n + suc k) (tries (steps s p k (stepped p run))) (omega arith) rest
    by false rest = more (n + 1) (n + suc k) (tries (stepped p run)) (omega arith) (step_few p n run are)

goes_few : (s : Setup) (p : ℕ) (target : Target) (k n : ℕ) (run : Run) → AreFew n (tries run) → AreFew (n + k) (tries (goes s p target k run))
goes_few s p target zero n run are = by (is_there target (stage p (past_in s run)))
  where
    by : (b : Bool) → AreFew (n + 0) (tries (elim b as (λ _. Run) [ true ↦ run | false ↦ with_happening (Tires p) run ]))
    by true = more n (n + 0) (tries run) (omega arith) are
    by false = more n (n + 0) (tries run) (omega arith) are
goes_few s p target (suc k) n run are = by (is_there target (stage p (past_in s run))) (may_step s p run) (goes_few s p target k (n + 1) (stepped p run) (step_few p n run are))
  where
    by : (b d : Bool) → AreFew (n + 1 + k) (tries (goes s p target k (stepped p run))) →
        AreFew (n + suc k) (tries (elim b as (λ _. Run) [ true ↦ run | false ↦ elim d as (λ _. Run) [ true ↦ goes s p target k (stepped p run) | false ↦ stepped p run ] ]))
    by true d rest = more n (n + suc k) (tries run) (omega arith) are
    by false true rest = more (n + 1 + k) (n + suc k) (tries (goes s p target k (stepped p run))) (omega arith) rest
    by false false rest = more (n + 1) (n + suc k) (tries (stepped p run)) (omega arith) (step_few p n run are)

wanders_few : (s : Setup) (k n : ℕ) (run : Run) → AreFew n (tries run) → AreFew (n + k) (tries (wanders s k run))
wanders_few s zero n run are = more n (n + 0) (tries run) (omega arith) are
wanders_few s (suc k) n run are = by (enabled s (past_in s run)) (λ ps. wanders_few s k (n + 1) (picked ps run) (one_more n (next_step (pick_among ps run) (after_pick_in run)) (tries run) refl are))
  where
    by : (ps : List ℕ) → ((qs : List ℕ) → AreFew (n + 1 + k) (tries (wanders s k (picked qs run)))) → AreFew (n + suc k) (tries (elim ps as (λ _. Run) [ [] ↦ run | p ∷ qs ↦ wanders s k (picked (p ∷ qs) run) ]))
    by [] rest = more n (n + suc k) (tries run) (omega arith) are
    by (p ∷ qs) rest = more (n + 1 + k) (n + suc k) (tries (wanders s k (picked (p ∷ qs) run))) (omega arith) (rest (p ∷ qs))

at_most : (k : ℕ) → nat_le k 100000 ≡ true → k ≤ 100000
at_most k few = grind (arith, nat_tests)

-- a line tries at most 100,000 events
line_few : (s : Setup) (version n : ℕ) (l : Line) (run : Run) → is_line l ≡ true → is_line_of version l ≡ true → AreFew n (tries run) → AreFew (n + 100000) (tries (run_after s l run))
line_few s version n (line.Call p command) run good allowed are =
    more (n + 1) (n + 100000) (event.Call p command ∷ tries run) (omega arith) (one_more n (event.Call p command) (tries run) (and_parts (nat_lt p 256) (is_command command) good).1 are)
line_few s version n (line.Step p k) run good allowed are = more (n + k) (n + 100000) (tries (steps s p k run)) (let few = at_most k allowed in omega (arith, few)) (steps_few s p k n run are)
line_few s version n (line.Go p target) run good allowed are = by (nat_lt p s.processes)
  where
    by : (b : Bool) → AreFew (n + 100000) (tries (elim b as (λ _. Run) [ true ↦ goes s p target go_limit run | false ↦ with_happening (Lacks p) run ]))
    by true = more (n + go_limit) (n + 100000) (tries (goes s p target go_limit run)) (omega arith) (goes_few s p target go_limit n run are)
    by false = more n (n + 100000) (tries run) (omega arith) are
line_few s version n (line.Fail p) run good allowed are = more (n + 1) (n + 100000) (event.Fail p ∷ tries run) (omega arith) (one_more n (event.Fail p) (tries run) refl are)
line_few s version n (line.Withdraw p) run good allowed are = more (n + 1) (n + 100000) (event.Withdraw p ∷ tries run) (omega arith) (one_more n (event.Withdraw p) (tries run) refl are)
line_few s version n (line.Restart p) run good allowed are = more (n + 1) (n + 100000) (event.Restart p ∷ tries run) (omega arith) (one_more n (event.Restart p) (tries run) refl are)
line_few s version n (line.Flick flick) run good allowed are = more n (n + 100000) (tries run) (omega arith) are
line_few s version n (line.Wander k) run good allowed are = more (n + k) (n + 100000) (tries (wanders s k run)) (let few = at_most k allowed in omega (arith, few)) (wanders_few s k n run are)
line_few s version n line.Show run good allowed are = more n (n + 100000) (tries run) (omega arith) are

-- lines try at most 100,000 events each
pub lines_few : (s : Setup) (version n : ℕ) (ls : List Line) (run : Run) → list_all is_line ls ≡ true → list_all (is_line_of version) ls ≡ true → AreFew n (tries run) → AreFew (n + 100000 * length ls) (tries (runs s ls run))
lines_few s version n [] run good allowed are = more n (n + 100000 * 0) (tries run) (omega arith) are
lines_few s version n (l ∷ ls) run good allowed are =
    let goods = and_parts (is_line l) (list_all is_line ls) good in
    let may = and_parts (is_line_of version l) (list_all (is_line_of version) ls) allowed in
    more (n + 100000 + 100000 * length ls) (n + 100000 * suc (length ls)) (tries (runs s ls (run_after s l run))) (omega arith)
    (lines_few s version (n + 100000) ls (run_after s l run) goods.1 may.1 (line_few s version n l run goods.0 may.0 are))

-- the accepted events are among them
pub accepted_few : (s : Setup) (n : ℕ) (events : List Event) → AreFew n events → AreFew n (accepted s events)
accepted_few s n [] are = are
accepted_few s n (what ∷ events) are = by (refused s (past_of s events) what) (accepted_few s (length events) events (record { few = omega arith; given = parts.1 }))
  where
    parts : (is_event what ≡ true) × (list_all is_event events ≡ true)
    parts = and_parts (is_event what) (list_all is_event events) are.given

    longer : length events + 1 ≤ n
    longer = let all : length (what ∷ events) ≤ n = are.few in omega (arith, all)

    by : (r : Option Refusal) → AreFew (length events) (accepted s events) → AreFew n (elim r as (λ _. List Event) [ None ↦ what ∷ accepted s events | Some x ↦ accepted s events ])
    by None rest = more (length events + 1) n (what ∷ accepted s events) longer (one_more (length events) what (accepted s events) parts.0 rest)
    by (Some x) rest = more (length events) n (accepted s events) (omega (arith, longer)) rest
