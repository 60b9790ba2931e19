-- `wander`, when one process alone has a Step to make and flicks are constant. Its turns are those of a line of Steps, except that each pick draws a word.
use Rattle.std.proofs.Common.{◌≡◌, ℕ, zero, suc, arith, ◌+◌, ◌-◌, ◌<◌, Bool, true, false, List, [], ◌∷◌, length, slice_index, Option, None, Some, is_none, inl, refl, ap, sym, subst, ◌∙◌, add-zero}
use Rattle.std.proofs.lemmas.Nat.{mod_below}
use Rattle.plain_store.specs.{Setup}
use Rattle.model.specs.declared.events.Event.TheVariants.{Step}
use Rattle.scenario.specs.{Line}
use Rattle.scenario.specs.declared.lines.Line.TheVariants as line
use Rattle.world.specs.choices.{FlickState, Mode, after_flick, after_pick, flick_of, is_constant, pick_of, picks_after}
use Rattle.world.specs.choices.Flicks.{after_flick_by, flick_by, is_constant_by}
use Rattle.world.specs.choices.declared.Mode.TheVariants.{Constant, Generator}
use Rattle.scenario_run.specs.{ComesAlong, ComesOn, ComesTo, ScenarioRunState, Follows, Happening, IsAlone, IsQuiet, QuietTurns, Run, RunsTo, Reports, TurnReport, Tries, Turn, scenario_run, made_turn, may_step, enabled, next_step, past_in, step_turn, stepped, tried, turn_of, wander_turn}
use Rattle.scenario_run.proofs.Runnings.{comes_down, drawn_run}
use Rattle.scenario_run.proofs.Enabled.{MaySteps, enabled_quiet, pick_steps}
use Rattle.scenario_run.proofs.Wanders.{ArePicked}

-- Constant flicks.

constant_bit : (f : FlickState) → is_constant f ≡ true → (bit : Bool) × (f.mode ≡ Constant bit)
constant_bit f is = by f.mode refl is
  where
    by : (m : Mode) → f.mode ≡ m → is_constant_by m ≡ true → (bit : Bool) × (f.mode ≡ Constant bit)
    by (Constant bit) same is = (bit, same)
    by Generator same is = absurd (cc)

bit_of : (f : FlickState) (bit : Bool) → f.mode ≡ Constant bit → flick_of f ≡ bit
bit_of f bit is = ap (λ m. flick_by m f.generator) is

-- a flick draws no word
flick_stays : (f : FlickState) (bit : Bool) → f.mode ≡ Constant bit → after_flick f ≡ f
flick_stays f bit is = ap (λ m. let g : FlickState = record f { generator = after_flick_by m f.generator } in g) is

-- picks keep the mode
picks_mode : (n : ℕ) (f : FlickState) → (picks_after n f).mode ≡ f.mode
picks_mode zero f = refl
picks_mode (suc n) f = picks_mode n f

-- n picks after one are n + 1 picks
picks_first : (n : ℕ) (f : FlickState) → picks_after n (after_pick f) ≡ picks_after (suc n) f
picks_first zero f = refl
picks_first (suc n) f = ap after_pick (picks_first n f)

-- One process to pick.

pick_one : (p : ℕ) (f : FlickState) → slice_index (p ∷ []) (pick_of 1 f) ≡ p
pick_one p f =
    let less : pick_of 1 f < 1 = mod_below _ 1 (omega arith) in
    let none : pick_of 1 f ≡ 0 = omega (arith, less) in
    ap (slice_index (p ∷ [])) none

-- the Step of the only process that can make one is not refused
lone_may : (s : Setup) (p : ℕ) (run : Run) → enabled s (past_in s run) ≡ p ∷ [] → MaySteps p s run.happened
lone_may s p run are = subst (λ q. MaySteps q s run.happened) (pick_one p run.flicks) (pick_steps s run (p ∷ []) are (omega arith))

lone_step : (s : Setup) (p remaining : ℕ) (run : Run) → enabled s (past_in s run) ≡ p ∷ [] → step_turn s p remaining run ≡ made_turn p remaining run
lone_step s p remaining run are =
    let may : may_step s p run ≡ true = ap is_none (lone_may s p run are (flick_of run.flicks)) in
    ap (λ b. made_turn p (elim b as (λ _. ℕ) [ true ↦ remaining | false ↦ 0 ]) run) may

-- the turn that picks the process makes the Step that it would make in a line of its Steps
abbrev lone_made : ℕ → ℕ → Run → FlickState → Turn
lone_made p remaining run source = record { this = Some (Tries (next_step p run)); remaining = remaining; run = drawn_run (stepped p run) (after_pick source) }

lone_turn : (s : Setup) (n p remaining : ℕ) (bit : Bool) (run : Run) (source : FlickState) → run.flicks.mode ≡ Constant bit → source.mode ≡ Constant bit → enabled s (past_in s run) ≡ p ∷ [] →
    turn_of s (line.Wander n) (suc remaining) (drawn_run run source) ≡ lone_made p remaining run source
lone_turn s n p remaining bit run source here there are =
    let flick : flick_of (after_pick source) ≡ flick_of run.flicks = bit_of (after_pick source) bit there ∙ sym (bit_of run.flicks bit here) in
    let made : Bool → FlickState → Turn = λ b f. record { this = Some (Tries (Step p b)); remaining = remaining; run = record { happened = Tries (Step p b) ∷ run.happened; flicks = f } } in
    ap (wander_turn remaining (drawn_run run source)) are ∙ ap (λ q. made_turn q remaining (drawn_run run (after_pick source))) (pick_one p source) ∙ (λ i. made (flick i) (flick_stays (after_pick source) bit there i))

-- turns without a mark
record Lone (s : Setup) (n p : ℕ) (bit : Bool) (quiet remaining : ℕ) (run : Run) (source : FlickState) (remaining' : ℕ) (run' : Run) : Type 0 where
  turns : QuietTurns s (line.Wander n) quiet remaining (drawn_run run source) remaining' (drawn_run run' (picks_after quiet source))
  flicks : run'.flicks ≡ run.flicks
  are : enabled s (past_in s run') ≡ p ∷ []
  count : remaining' + quiet ≡ remaining

lone_quiet : (s : Setup) (steps n p : ℕ) (bit : Bool) (quiet remaining : ℕ) (run : Run) (source : FlickState) (remaining' : ℕ) (run' : Run) → run.flicks.mode ≡ Constant bit → source.mode ≡ Constant bit → enabled s (past_in s run) ≡ p ∷ [] → QuietTurns s (line.Step p steps) quiet remaining run remaining' run' →
    Lone s n p bit quiet remaining run source remaining' run'
lone_quiet s steps n p bit zero remaining run source remaining' run' here there are (same, at) = record {
  turns = (same, λ i. drawn_run (at i) source);
  flicks = ap (λ (r : Run). r.flicks) at;
  are = ap (λ (r : Run). enabled s (past_in s r)) at ∙ are;
  count = add-zero remaining' ∙ same;
}
lone_quiet s steps n p bit (suc quiet) zero run source remaining' run' here there are (first, more) = absurd first
lone_quiet s steps n p bit (suc quiet) (suc remaining) run source remaining' run' here there are (first, more) =
    let rest : QuietTurns s (line.Step p steps) quiet remaining (stepped p run) remaining' run' = subst (λ (t : Turn). QuietTurns s (line.Step p steps) quiet t.remaining t.run remaining' run') (lone_step s p remaining run are) more in
    let u = lone_quiet s steps n p bit quiet remaining (stepped p run) (after_pick source) remaining' run' here there (enabled_quiet s (tried run.happened) (next_step p run) first ∙ are) rest in
    record {
      turns = subst (λ (t : Turn). IsQuiet s (past_in s run) t.this × QuietTurns s (line.Wander n) quiet t.remaining t.run remaining' (drawn_run run' (picks_after (suc quiet) source))) (sym (lone_turn s n p remaining bit run source here there are))
          (first, subst (λ f. QuietTurns s (line.Wander n) quiet remaining (drawn_run (stepped p run) (after_pick source)) remaining' (drawn_run run' f)) (picks_first quiet source) u.turns);
      flicks = u.flicks ∙ flick_stays run.flicks bit here;
      are = u.are;
      count = let count = u.count in omega (arith, count);
    }

-- the scenario run after the words of the picks are drawn
abbrev pub lone_run : ℕ → ScenarioRunState → ScenarioRunState
lone_run had mid = scenario_run mid.world (picks_after (had - mid.remaining) mid.flicks) mid.remaining

module _ {L : Type 0} (Observes : L → Setup → List Happening → List Happening → L → Type 0) (s : Setup) (steps n p had : ℕ) (run : Run) (was is : L) (mid : ScenarioRunState) (constant : is_constant run.flicks ≡ true) (are : enabled s (past_in s run) ≡ p ∷ []) where
  here : (bit : Bool) × (run.flicks.mode ≡ Constant bit)
  here = constant_bit run.flicks constant

  -- the Steps without a mark are observed
  pub lone_on : (Next : Setup → Line → Run → Type 0) → ComesOn Observes s (line.Step p steps) had run was is mid Next → ComesOn Observes s (line.Wander n) had run was is (lone_run had mid) (ArePicked (p ∷ []))
  lone_on Next u =
      let v = lone_quiet s steps n p here.0 u.quiet had run run.flicks mid.remaining u.now here.1 here.1 are u.turns in
      let count = v.count in
      let made : had - mid.remaining ≡ u.quiet = omega (arith, count) in
      record {
        quiet = u.quiet;
        now = drawn_run u.now (picks_after u.quiet run.flicks);
        turns = v.turns;
        observes = u.observes;
        follows = record { shows = u.follows.shows; flicks = λ i. picks_after (made i) ((u.follows.flicks ∙ v.flicks) i) };
        setup = u.setup;
        next = sym v.are;
      }

  -- the turn that is reported
  lone_reported : (before : ℕ) (answer : TurnReport) → ComesTo Observes s (line.Step p steps) had run was is before (Some answer) mid → ComesTo Observes s (line.Wander n) had run was is before (Some answer) (lone_run had mid)
  lone_reported before answer u = by before u.turns u.reports u.follows u.remaining_is
    where
      by : (before : ℕ) → QuietTurns s (line.Step p steps) u.quiet had run before u.now → Reports s (past_in s u.now) (turn_of s (line.Step p steps) before u.now).this (Some answer) → Follows mid (turn_of s (line.Step p steps) before u.now).run → mid.remaining ≡ (turn_of s (line.Step p steps) before u.now).remaining →
          ComesTo Observes s (line.Wander n) had run was is before (Some answer) (lone_run had mid)
      by zero turns reports follows remaining_is = absurd reports
      by (suc remaining) turns reports follows remaining_is =
          let v = lone_quiet s steps n p here.0 u.quiet had run run.flicks (suc remaining) u.now here.1 here.1 are turns in
          let source : FlickState = picks_after u.quiet run.flicks in
          let now_constant : u.now.flicks.mode ≡ Constant here.0 = ap (λ (f : FlickState). f.mode) v.flicks ∙ here.1 in
          let turn = lone_turn s n p remaining here.0 u.now source now_constant (picks_mode u.quiet run.flicks ∙ here.1) v.are in
          let fewer : mid.remaining ≡ remaining = remaining_is ∙ ap (λ (t : Turn). t.remaining) (lone_step s p remaining u.now v.are) in
          let count = v.count in
          let made : had - mid.remaining ≡ suc u.quiet = omega (arith, count, fewer) in
          record {
            quiet = u.quiet;
            now = drawn_run u.now source;
            turns = v.turns;
            observes = u.observes;
            reports = subst (λ (t : Turn). Reports s (past_in s u.now) t.this (Some answer)) (sym turn) reports;
            follows = subst (λ (t : Turn). Follows (lone_run had mid) t.run) (sym turn) (record { shows = follows.shows; flicks = λ i. picks_after (made i) ((follows.flicks ∙ flick_stays u.now.flicks here.0 now_constant ∙ v.flicks) i) });
            remaining_is = subst (λ (t : Turn). mid.remaining ≡ t.remaining) (sym turn) fewer;
            setup = u.setup;
          }

  -- turns up to the one that is reported, or down to the floor
  pub lone_whole : (floor before : ℕ) (answer : Option TurnReport) → (answer ≡ None → mid.remaining ≡ floor) → (answer ≡ None → before ≡ floor) → RunsTo Observes s (line.Step p steps) had run was is p floor before answer mid → ComesAlong Observes s (line.Wander n) had run was is floor before answer (lone_run had mid)
  lone_whole floor before None ended at u = inl (comes_down Observes s (line.Wander n) had run was is floor before (lone_run had mid) (ArePicked (p ∷ [])) (ended refl) (at refl) (lone_on (IsAlone p floor) u))
  lone_whole floor before (Some answer) ended at u = (u.0, lone_reported before answer u.1)

-- a list of length 1 holds its first element
pub only_one : (ps : List ℕ) → length ps ≡ 1 → ps ≡ slice_index ps 0 ∷ []
only_one [] one = absurd (omega (arith, one))
only_one (p ∷ []) one = refl
only_one (p ∷ q ∷ ps) one = absurd (omega (arith, one))
