-- Steps of picked processes without a mark, which leave the processes that may be picked unchanged.
use Rattle.std.proofs.Common.{◌≡◌, ℕ, zero, suc, arith, ◌-◌, ◌<◌, ◌≤◌, Bool, List, [], ◌∷◌, ◌++◌, length, slice_index, Option, None, Some, refl, ap, inl, sym, subst, ◌∙◌}
use Rattle.plain_store.specs.{Setup}
use Rattle.model.specs.declared.events.Event.TheVariants as event
use Rattle.scenario.specs.{Line}
use Rattle.scenario.specs.declared.lines.Line.TheVariants as line
use Rattle.scenario.specs.files.{Fault}
use Rattle.world.specs.choices.{FlickState, Mode, flick_of, after_flick, flicks_after, pick_of, after_pick, picks_after}
use Rattle.world.specs.choices.Flicks.{after_flick_by, after_word}
use Rattle.world.specs.choices.declared.Mode.TheVariants.{Constant, Generator}
use Rattle.world.specs.{WorldState}
use Rattle.scenario_run.specs.{ComesAlong, ComesOn, ComesTo, ScenarioRunState, Follows, Happening, ObservesStep, Makes, MakesStep, Run, StopsBy, ReportsOf, ReportsStep, TurnReport, Tries, Turn, after_pick_in, scenario_run, ends, made_turn, enabled, next_step, past_in, rest_of, tried, turn_of, turns_drawn, wander_turn}
use Rattle.scenario_run.proofs.ScenarioRunTurns.{turn_next}
use Rattle.scenario_run.proofs.Enabled.{enabled_quiet}
use Rattle.scenario_run.proofs.Runnings.{IsStep, comes_down, comes_stop, comes_then, comes_to, drawn_run, line_stops, one_on, one_reported, quiet_adds}

-- these processes may be picked
abbrev pub ArePicked : List ℕ → Setup → Line → Run → Type 0
ArePicked ps s l run = ps ≡ enabled s (past_in s run)

-- the turn of `wander` with at least one process to pick
pub pick_turn : (s : Setup) (steps remaining p : ℕ) (flicks : FlickState) (ps : List ℕ) (run : Run) → (remaining ≡ 0 → ⊥) → 0 < length ps → flicks ≡ run.flicks → p ≡ slice_index ps (pick_of (length ps) flicks) → ps ≡ enabled s (past_in s run) →
    turn_of s (line.Wander steps) remaining run ≡ made_turn p (remaining - 1) (after_pick_in run)
pick_turn s steps remaining p flicks ps run some_remaining some same is are =
    turn_next s (line.Wander steps) remaining run some_remaining ∙ ap (λ ps. wander_turn (remaining - 1) run ps) (sym are) ∙ by ps some is
  where
    by : (ps : List ℕ) → 0 < length ps → p ≡ slice_index ps (pick_of (length ps) flicks) → wander_turn (remaining - 1) run ps ≡ made_turn p (remaining - 1) (after_pick_in run)
    by [] some is = absurd (omega (arith, some))
    by (q ∷ qs) some is = ap (λ p. made_turn p (remaining - 1) (after_pick_in run)) (sym (is ∙ ap (λ flicks. slice_index (q ∷ qs) (pick_of (length (q ∷ qs)) flicks)) same))

module _ (w w' : WorldState) (steps remaining p : ℕ) (ps : List ℕ) (flick : Bool) (run : Run) (flicks flicks' : FlickState) (some_remaining : remaining ≡ 0 → ⊥) (some : 0 < length ps) (picked : p ≡ slice_index ps (pick_of (length ps) flicks)) (is : flick ≡ flick_of (after_pick flicks)) (after : flicks' ≡ after_flick (after_pick flicks))
    (follows : Follows (scenario_run w flicks remaining) run) (are : ps ≡ enabled w.setup (past_in w.setup run)) where
  abbrev source : FlickState
  source = after_pick run.flicks

  by : flick ≡ flick_of source
  by = is ∙ ap (λ f. flick_of (after_pick f)) follows.flicks

  then : flicks' ≡ after_flick source
  then = after ∙ ap (λ f. after_flick (after_pick f)) follows.flicks

  -- a Step of a process that is picked
  picked_step : IsStep w (line.Wander steps) remaining p flick run source (remaining - 1)
  picked_step = record { shows = follows.shows; by = by; turn = pick_turn w.setup steps remaining p flicks ps run some_remaining some follows.flicks picked are }

  picked_on : {L : Type 0} (Observes : L → Setup → List Happening → List Happening → L → Type 0) (was is : L) → ObservesStep Observes w p flick w' was is → ComesOn Observes w.setup (line.Wander steps) remaining run was is (scenario_run w' flicks' (remaining - 1)) (ArePicked ps)
  picked_on Observes was is h =
      one_on Observes w w' (line.Wander steps) remaining p flick run source flicks' (remaining - 1) was is (ArePicked ps) picked_step h then
      (are ∙ sym (enabled_quiet w.setup (tried run.happened) (event.Step p (flick_of source)) (quiet_adds w w' p flick run source h.step follows.shows by)))

  picked_reported : {L : Type 0} (Observes : L → Setup → List Happening → List Happening → L → Type 0) (a : L) (answer : TurnReport) → (ReportsOf w.setup (past_in w.setup run) (Tries (next_step p (drawn_run run source))) answer → Observes a w.setup run.happened run.happened a) → ReportsStep w p flick answer w' →
      ComesTo Observes w.setup (line.Wander steps) remaining run a a remaining (Some answer) (scenario_run w' flicks' (remaining - 1))
  picked_reported Observes a answer nothing t = one_reported Observes w w' (line.Wander steps) remaining p flick run source flicks' (remaining - 1) a answer nothing picked_step t then

-- with no process to pick, the line has ended
pub wander_ends : (w : WorldState) (flicks : FlickState) (remaining steps : ℕ) (ps : List ℕ) → ps ≡ [] → (run : Run) → Follows (scenario_run w flicks remaining) run → ps ≡ enabled w.setup (past_in w.setup run) → Makes (scenario_run w flicks remaining) run (turn_of w.setup (line.Wander steps) remaining run) None (scenario_run w flicks 0)
wander_ends w flicks remaining steps ps none run follows are =
    subst (λ (turn : Turn). Makes (scenario_run w flicks remaining) run turn None (scenario_run w flicks 0)) (sym (by remaining run (sym are ∙ none)))
    (record { reports = tt; follows = record { shows = follows.shows; flicks = follows.flicks }; remaining = refl; setup = refl })
  where
    by : (remaining : ℕ) (run : Run) → enabled w.setup (past_in w.setup run) ≡ [] → turn_of w.setup (line.Wander steps) remaining run ≡ ends run
    by zero run none = refl
    by (suc remaining) run none = ap (λ ps. wander_turn remaining run ps) none

-- The words that the turns of `wander` draw.

-- the flicks after all turns of a scenario run except `remaining`
abbrev pub drawn_to : ScenarioRunState → ℕ → FlickState
drawn_to scenario_run remaining = turns_drawn (scenario_run.remaining - remaining) scenario_run.flicks

-- no turn is made yet
pub drawn_none : (old : ScenarioRunState) (flicks : FlickState) (remaining : ℕ) → flicks ≡ old.flicks → remaining ≡ old.remaining → drawn_to old remaining ≡ flicks
drawn_none old flicks remaining same all = let none : old.remaining - remaining ≡ 0 = omega (arith, all) in ap (λ n. turns_drawn n old.flicks) none ∙ sym same

-- one turn more
pub drawn_more : (old : ScenarioRunState) (remaining : ℕ) → 0 < remaining → remaining ≤ old.remaining → drawn_to old (remaining - 1) ≡ after_flick (after_pick (drawn_to old remaining))
drawn_more old remaining some few = let more : old.remaining - (remaining - 1) ≡ suc (old.remaining - remaining) = omega (arith, some, few) in ap (λ n. turns_drawn n old.flicks) more

-- The scenario run of `wander` after the next turn, a Step whose flick comes from `source`.
module _ {L : Type 0} (Observes : L → Setup → List Happening → List Happening → L → Type 0) (observes_on : (a b c : L) (s : Setup) (x y z : List Happening) → Observes a s x y b → Observes b s y z c → Observes a s x z c) (old : ScenarioRunState) (steps remaining p : ℕ) (ps : List ℕ) (run : Run) (was mid is : L) (w w' : WorldState) (source : FlickState)
    (more : 0 < remaining) (few : remaining ≤ old.remaining) (some : 0 < length ps) (picked : p ≡ slice_index ps (pick_of (length ps) (drawn_to old remaining))) (from : source ≡ after_pick (drawn_to old remaining))
    (u : ComesOn Observes old.world.setup (line.Wander steps) old.remaining run was mid (scenario_run w (drawn_to old remaining) remaining) (ArePicked ps)) where
  abbrev now : ScenarioRunState
  now = scenario_run w (drawn_to old remaining) remaining

  abbrev next : ScenarioRunState
  next = scenario_run w' (drawn_to old (remaining - 1)) (remaining - 1)

  some_remaining : remaining ≡ 0 → ⊥
  some_remaining none = omega (arith, none, more)

  one : (R : L → Setup → List Happening → List Happening → L → Type 0) → ObservesStep R w p (flick_of source) w' mid is → (run : Run) → Follows now run → ArePicked ps w.setup (line.Wander steps) run → ComesOn R w.setup (line.Wander steps) remaining run mid is next (ArePicked ps)
  one R h run follows are = picked_on w w' steps remaining p ps (flick_of source) run now.flicks next.flicks some_remaining some picked (ap flick_of from) (drawn_more old remaining more few) follows are R mid is h

  -- a Step without a mark
  pub wander_on : ObservesStep Observes w p (flick_of source) w' mid is → ComesOn Observes old.world.setup (line.Wander steps) old.remaining run was is next (ArePicked ps)
  wander_on h = comes_then Observes observes_on old.world.setup (line.Wander steps) old.remaining run was mid is now (ArePicked ps) u next (ArePicked ps) (one Observes h)

  -- the last Step above the floor, or a Step that is reported
  pub wander_to : ((a : L) (s : Setup) (x : List Happening) → Observes a s x x a) → (floor before : ℕ) (reported : Option TurnReport) (flicks : FlickState) → floor < remaining → MakesStep Observes w p (flick_of source) reported w' mid is → (reported ≡ None → (remaining - 1 ≡ floor) × (before ≡ floor)) → ((reported ≡ None → ⊥) → before ≡ remaining) → flicks ≡ drawn_to old (remaining - 1) →
      ComesAlong Observes old.world.setup (line.Wander steps) old.remaining run was is floor before reported (scenario_run w' flicks (remaining - 1))
  wander_to observes_nothing floor before None flicks above h ended at same =
      inl (comes_down Observes old.world.setup (line.Wander steps) old.remaining run was is floor before (scenario_run w' flicks (remaining - 1)) (ArePicked ps) (ended refl).0 (ended refl).1
      (subst (λ (f : FlickState). ComesOn Observes old.world.setup (line.Wander steps) old.remaining run was is (scenario_run w' f (remaining - 1)) (ArePicked ps)) (sym same) (wander_on h)))
  wander_to observes_nothing floor before (Some answer) flicks above both ended at same =
      subst (λ (n : ℕ). (floor < n) × ComesTo Observes old.world.setup (line.Wander steps) old.remaining run was is n (Some answer) (scenario_run w' flicks (remaining - 1))) (sym (at (λ none. absurd (cc)))) (
        above,
        subst (λ (b : L). ComesTo Observes old.world.setup (line.Wander steps) old.remaining run was b remaining (Some answer) (scenario_run w' flicks (remaining - 1))) (sym both.1)
            (comes_to Observes observes_on old.world.setup (line.Wander steps) old.remaining run was mid mid now (ArePicked ps) u (scenario_run w' flicks (remaining - 1)) remaining (Some answer)
            (λ run follows are. picked_reported w w' steps remaining p ps (flick_of source) run now.flicks flicks some_remaining some picked (ap flick_of from) (same ∙ drawn_more old remaining more few) follows are Observes mid answer (λ reports. observes_nothing mid w.setup run.happened) both.0)),
      )

  -- a fault when the observer observes a Step without a mark
  pub wander_stops : (Stops : L → Setup → List Happening → List Happening → Fault → L → Type 0) → ((a b c : L) (s : Setup) (x y z : List Happening) (fault : Fault) → Observes a s x y b → Stops b s y z fault c → Stops a s x z fault c) →
      ((a b : L) (s : Setup) (x y more : List Happening) (fault : Fault) → Stops a s x y fault b → Stops a s x (more ++ y) fault b) → (fault : Fault) → ObservesStep (StopsBy Stops fault) w p (flick_of source) w' mid is → old.remaining ≤ steps →
      Stops was old.world.setup run.happened (rest_of old.world.setup (line.Wander steps) old.remaining run).happened fault is
  wander_stops Stops stops_on stops_before fault h within =
      line_stops Stops old.world.setup (line.Wander steps) old.remaining run was is fault next (ArePicked ps) stops_before
      (comes_stop Observes observes_on old.world.setup (line.Wander steps) old.remaining run was mid is now (ArePicked ps) u Stops stops_on fault next (ArePicked ps) (one (StopsBy Stops fault) h)) within

pick_by_flick : (f : FlickState) → after_pick (after_flick f) ≡ after_flick (after_pick f)
pick_by_flick f = by f.mode
  where
    by : (m : Mode) → (let one : FlickState = record f { generator = after_word (after_flick_by m f.generator) } in one) ≡ (let other : FlickState = record f { generator = after_flick_by m (after_word f.generator) } in other)
    by (Constant bit) = refl
    by Generator = refl

-- a pick may be drawn before flicks or after them
pick_first : (n : ℕ) (f : FlickState) → after_pick (flicks_after n f) ≡ flicks_after n (after_pick f)
pick_first zero f = refl
pick_first (suc n) f = pick_by_flick (flicks_after n f) ∙ ap after_flick (pick_first n f)

-- therefore all picks may be drawn first
pub picks_first : (n : ℕ) (f : FlickState) → flicks_after n (picks_after n f) ≡ turns_drawn n f
picks_first zero f = refl
picks_first (suc n) f = ap after_flick (sym (pick_first n (picks_after n f)) ∙ ap after_pick (picks_first n f))
