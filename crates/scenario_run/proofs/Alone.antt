-- One process makes the Steps of a line: `step`, and `go` while the process is not at its target.
use Rattle.std.proofs.Common.{◌≡◌, ℕ, zero, suc, ◌+◌, ◌-◌, ◌<◌, ◌≤◌, arith, Bool, true, false, cond, List, [], ◌∷◌, IfOk, IfSome, Option, None, Some, Result, Ok, Err, is_none, refl, ap, sym, subst, ◌∙◌, add-one, inl, inr}
use Rattle.plain_store.specs.{Setup}
use Rattle.model.specs.{Access, AreGiven, Mark}
use Rattle.model.specs.declared.events.Event.TheVariants.{Step}
use Rattle.scenario.specs.{Line}
use Rattle.scenario.specs.declared.lines.Line.TheVariants as line
use Rattle.scenario.specs.files.{Fault}
use Rattle.world.specs.choices.{FlickState, after_flick, flick_of}
use Rattle.world.specs.{remaining_in}
use Rattle.world.specs.Shows.{Shows, WorldState}
use Rattle.world.specs.Walks.{StepsQuietly, Walks}
use Rattle.auditor.specs.{steps_on}
use Rattle.auditor.proofs.Stretches.{walks-flicks}
use Rattle.scenario_run.specs.{AddsMarks, ComesAlong, ComesOn, ComesTo, ScenarioRunState, Follows, Happening, ObservesStep, IsAlone, IsNewest, IsQuiet, MakesStep, PassBy, PassWithin, PassesAlone, QuietTurns, Run, RunsTo, StepsWithin, StopsBy, ReportsOf, ReportsStep, TurnReport, Tries, Turn, scenario_run, entry_made, is_there, remaining_after, made_turn, may_step, next_step, overlapped_in, past_after, past_in, step_turn, stepped, tried, turn_of}
use Rattle.scenario_run.specs.declared.reports.TurnReport.TheVariants as reported
use Rattle.scenario_run.proofs.ScenarioRunTurns.{turn_next}
use Rattle.scenario_run.proofs.Goes.{go_steps}
use Rattle.scenario_run.proofs.Refusals.{entry_by, not_refused}
use Rattle.scenario_run.proofs.Runnings.{IsStep, comes_down, comes_stop, comes_then, comes_to, drawn_run, one_on, one_reported, quiet_adds, turns_then}
use Rattle.scenario_run.proofs.Within.{newest_made, overlapped_more, passes_then, steps_within}
use Rattle.scenario_run.proofs.Enabled.{stage_quiet}

-- the next turn of the line is a Step of this process
alone_turn : (s : Setup) (l : Line) (remaining p floor : ℕ) (run : Run) → floor < remaining → IsAlone p floor s l run → turn_of s l remaining run ≡ step_turn s p (remaining - 1) run
alone_turn s l remaining p floor run more (inl (steps, is)) = ap (λ l. turn_of s l remaining run) is ∙ turn_next s (line.Step p steps) remaining run (λ none. omega (arith, none, more))
alone_turn s l remaining p floor run more (inr (target, is, away, last)) =
    ap (λ l. turn_of s l remaining run) is ∙ go_steps s p 0 target remaining run away (omega (arith, last, more)) ∙ turn_next s (line.Step p 0) remaining run (λ none. omega (arith, none, more))

-- a Step that is made leaves the turns that are left
step_turn_made : (s : Setup) (p remaining : ℕ) (run : Run) (marks : List Mark) → AddsMarks s (past_in s run) (next_step p run) marks → step_turn s p remaining run ≡ made_turn p remaining run
step_turn_made s p remaining run marks adds =
    let may : may_step s p run ≡ true = ap is_none (not_refused s (past_in s run) (next_step p run) (entry_by (next_step p run) adds.0 marks) adds.1) in
    ap (λ b. made_turn p (elim b as (λ _. ℕ) [ true ↦ remaining | false ↦ 0 ]) run) may

-- a Step that is refused leaves no turns
step_turn_reported : (s : Setup) (p remaining : ℕ) (run : Run) (answer : TurnReport) → ReportsOf s (past_in s run) (Tries (next_step p run)) answer → step_turn s p remaining run ≡ made_turn p (remaining_after answer remaining) run
step_turn_reported s p remaining run (reported.Accepted made) reports =
    ap (λ b. made_turn p (elim b as (λ _. ℕ) [ true ↦ remaining | false ↦ 0 ]) run) (ap is_none (not_refused s (past_in s run) (next_step p run) (entry_made made) reports.1))
step_turn_reported s p remaining run (reported.Refused q r) reports = ap (λ b. made_turn p (elim b as (λ _. ℕ) [ true ↦ remaining | false ↦ 0 ]) run) (ap is_none reports.1)
step_turn_reported s p remaining run (reported.Tired q) reports = absurd reports
step_turn_reported s p remaining run (reported.Shown line) reports = absurd reports

-- after a Step without a mark, the process makes the next one
alone_still : (s : Setup) (l : Line) (p floor : ℕ) (run : Run) (source : FlickState) → AddsMarks s (past_in s run) (next_step p (drawn_run run source)) [] → IsAlone p floor s l run → IsAlone p floor s l (stepped p (drawn_run run source))
alone_still s l p floor run source adds (inl (steps, is)) = inl (steps, is)
alone_still s l p floor run source adds (inr (target, is, away, last)) =
    inr (target, is, record { there = away.there; away = ap (is_there target) (stage_quiet s p (tried run.happened) (Step p (flick_of source)) adds) ∙ away.away }, last)

module _ (w w' : WorldState) (l : Line) (remaining p floor : ℕ) (run : Run) (flicks flicks' : FlickState) (more : floor < remaining) (after : flicks' ≡ after_flick flicks) (follows : Follows (scenario_run w flicks remaining) run) (next : IsAlone p floor w.setup l run) where
  abbrev flick : Bool
  flick = flick_of flicks

  by : flick ≡ flick_of run.flicks
  by = ap flick_of follows.flicks

  -- a Step without a mark
  quiet_step : StepsQuietly w p flick w' → IsStep w l remaining p flick run run.flicks (remaining - 1)
  quiet_step q = record {
    shows = follows.shows;
    by = by;
    turn = alone_turn w.setup l remaining p floor run more next ∙ step_turn_made w.setup p (remaining - 1) run [] (quiet_adds w w' p flick run run.flicks q follows.shows by);
  }

  alone_on : {L : Type 0} (Observes : L → Setup → List Happening → List Happening → L → Type 0) (was is : L) → ObservesStep Observes w p flick w' was is → ComesOn Observes w.setup l remaining run was is (scenario_run w' flicks' (remaining - 1)) (IsAlone p floor)
  alone_on Observes was is h =
      one_on Observes w w' l remaining p flick run run.flicks flicks' (remaining - 1) was is (IsAlone p floor) (quiet_step h.step) h (after ∙ ap after_flick follows.flicks)
      (alone_still w.setup l p floor run run.flicks (quiet_adds w w' p flick run run.flicks h.step follows.shows by) next)

  -- a Step that is reported
  alone_reported : {L : Type 0} (Observes : L → Setup → List Happening → List Happening → L → Type 0) (a : L) (answer : TurnReport) (remaining' : ℕ) → (ReportsOf w.setup (past_in w.setup run) (Tries (next_step p run)) answer → Observes a w.setup run.happened run.happened a) → ReportsStep w p flick answer w' → remaining' ≡ remaining_after answer (remaining - 1) →
      ComesTo Observes w.setup l remaining run a a remaining (Some answer) (scenario_run w' flicks' remaining')
  alone_reported Observes a answer remaining' nothing t fewer =
      let reports : ReportsOf w.setup (past_in w.setup run) (Tries (next_step p run)) answer = subst (λ b. ReportsOf w.setup (past_in w.setup run) (Tries (Step p b)) answer) by (t.reports (tried run.happened) follows.shows) in
      one_reported Observes w w' l remaining p flick run run.flicks flicks' remaining' a answer nothing
      (record { shows = follows.shows; by = by; turn = alone_turn w.setup l remaining p floor run more next ∙ step_turn_reported w.setup p (remaining - 1) run answer reports ∙ ap (λ n. made_turn p n run) (sym fewer) }) t (after ∙ ap after_flick follows.flicks)

-- the Steps that a world makes in a row without a mark
record Walked (s : Setup) (l : Line) (remaining p floor n : ℕ) (newest : Access) (overlapped : ℕ) (run : Run) (flicks : FlickState) (w' : WorldState) (flicks' : FlickState) : Type 0 where
  now : Run
  turns : QuietTurns s l n remaining run (remaining - n) now
  follows : Follows (scenario_run w' flicks' (remaining - n)) now
  setup : w'.setup ≡ s
  next : IsAlone p floor s l now
  within : PassWithin s p n run.happened now.happened
  newest_is : 0 < n → IsNewest s p newest now.happened
  overlapped_are : overlapped ≡ overlapped_in n (past_after s now.happened)
  tried_are : tried now.happened ≡ steps_on p flicks n (tried run.happened)

walked : (n : ℕ) (newest : Access) (overlapped : ℕ) (w w' : WorldState) (flicks flicks' : FlickState) (l : Line) (remaining p floor : ℕ) (run : Run) → n + floor ≤ remaining → Walks w flicks p n newest overlapped w' flicks' → Follows (scenario_run w flicks remaining) run → IsAlone p floor w.setup l run → Walked w.setup l remaining p floor n newest overlapped run flicks w' flicks'
walked zero newest overlapped w w' flicks flicks' l remaining p floor run few (same, same_flicks, nobody) follows next =
    let all : remaining - 0 ≡ remaining = omega arith in
    record {
      now = run;
      turns = (all, refl);
      follows = subst (λ c. Follows c run) (sym (λ i. scenario_run (same i) (same_flicks i) (all i))) (record { shows = follows.shows; flicks = follows.flicks });
      setup = ap (λ (w : WorldState). w.setup) same;
      next = next;
      within = refl;
      newest_is = λ some. absurd (omega (arith, some));
      overlapped_are = nobody;
      tried_are = refl;
    }
walked (suc n) newest overlapped w w' flicks flicks' l remaining p floor run few (w1, flicks1, access, count, walks, last, made, after, counts) follows next =
    let s : Setup = w.setup in
    let b : Walked s l remaining p floor n access count run flicks w1 flicks1 = walked n access count w w1 flicks flicks1 l remaining p floor run (omega (arith, few)) walks follows next in
    let step : StepsWithin s b.now.happened p (flick_of flicks1) = subst (λ (s : Setup). StepsWithin s b.now.happened p (flick_of flicks1)) b.setup (steps_within w1 w' p (flick_of flicks1) newest last b.now.happened made b.follows.shows) in
    let is : flick_of flicks1 ≡ flick_of b.now.flicks = ap flick_of b.follows.flicks in
    let adds : AddsMarks s (past_in s b.now) (next_step p b.now) [] = subst (λ (s : Setup). AddsMarks s (past_in s b.now) (next_step p b.now) []) b.setup (quiet_adds w1 w' p (flick_of flicks1) b.now b.now.flicks made.steps b.follows.shows is) in
    let now : Run = stepped p b.now in
    let happened : List Happening = b.now.happened in
    let fewer : remaining - n - 1 ≡ remaining - suc n = omega arith in
    let turn : turn_of s l (remaining - n) b.now ≡ made_turn p (remaining - n - 1) b.now = alone_turn s l (remaining - n) p floor b.now (omega (arith, few)) b.next ∙ step_turn_made s p (remaining - n - 1) b.now [] adds in
    let one : QuietTurns s l 1 (remaining - n) b.now (remaining - suc n) now = subst (λ (t : Turn). IsQuiet s (past_in s b.now) t.this × ((remaining - suc n ≡ t.remaining) × (now ≡ t.run))) (sym turn) (adds, (sym fewer, refl)) in
    record {
      now = now;
      turns = subst (λ k. QuietTurns s l k remaining run (remaining - suc n) now) (add-one n) (turns_then s l n 1 remaining run (remaining - n) b.now (remaining - suc n) now b.turns one);
      follows = record { shows = subst (λ b. Shows w' (Step p b ∷ tried happened)) is (made.steps.shows (tried b.now.happened) b.follows.shows); flicks = after ∙ ap after_flick b.follows.flicks };
      setup = made.steps.setup ∙ b.setup;
      next = alone_still s l p floor b.now b.now.flicks adds b.next;
      newest_is = λ some. subst (λ (s : Setup). IsNewest s p newest (Tries (Step p (flick_of b.now.flicks)) ∷ happened)) b.setup
          (subst (λ f. IsNewest w1.setup p newest (Tries (Step p f) ∷ happened)) is (newest_made w1 w' p (flick_of flicks1) newest last happened made b.follows.shows));
      overlapped_are = counts ∙ subst (λ (s : Setup). count + cond last 1 0 ≡ overlapped_in (suc n) (past_after s (Tries (Step p (flick_of b.now.flicks)) ∷ happened))) b.setup
          (subst (λ f. count + cond last 1 0 ≡ overlapped_in (suc n) (past_after w1.setup (Tries (Step p f) ∷ happened))) is
          (overlapped_more w1 w' p (flick_of flicks1) newest last n count happened made b.follows.shows (subst (λ (s : Setup). count ≡ overlapped_in n (past_after s happened)) (sym b.setup) b.overlapped_are)));
      within = subst (λ b. PassWithin s p (suc n) run.happened (Tries (Step p b) ∷ happened)) is (passes_then s p n run.happened happened b.within (flick_of flicks1) step);
      tried_are = λ i. Step p (flick_of ((sym b.follows.flicks ∙ walks-flicks n access count w w1 flicks flicks1 p walks) i)) ∷ b.tried_are i;
    }

-- the observer is passed these Steps in one call
pub alone_pass : {L : Type 0} (Observes : L → Setup → List Happening → List Happening → L → Type 0) (n : ℕ) (w w' : WorldState) (flicks flicks' : FlickState) (newest : Access) (overlapped : ℕ) (l : Line) (remaining p floor : ℕ) (run : Run) (was is : L) → n + floor ≤ remaining → 0 < n → n ≤ remaining_in w.seats p → Walks w flicks p n newest overlapped w' flicks' →
    ((s : Setup) (before after : List Happening) → PassBy s p flicks n newest overlapped before after → Observes was s before after is) → Follows (scenario_run w flicks remaining) run → IsAlone p floor w.setup l run → ComesOn Observes w.setup l remaining run was is (scenario_run w' flicks' (remaining - n)) (IsAlone p floor)
alone_pass Observes n w w' flicks flicks' newest overlapped l remaining p floor run was is few some left walks pass follows next =
    let b = walked n newest overlapped w w' flicks flicks' l remaining p floor run few walks follows next in
    let by : PassBy w.setup p flicks n newest overlapped run.happened b.now.happened = record {
      given = subst (λ (s : Setup). AreGiven s (tried b.now.happened)) b.setup b.follows.shows.given;
      remaining = subst (λ (w : WorldState). n ≤ remaining_in w.seats p) follows.shows.shown left;
      tried_are = b.tried_are;
      within = b.within;
      newest_is = b.newest_is some;
      overlapped_are = b.overlapped_are;
    } in
    record { quiet = n; now = b.now; turns = b.turns; observes = pass w.setup run.happened b.now.happened by; follows = b.follows; setup = b.setup; next = b.next }

-- A turn: the observer is passed some Steps in one call, and then one Step is made.
module _ {L : Type 0} (Observes : L → Setup → List Happening → List Happening → L → Type 0) (observes_on : (a b c : L) (s : Setup) (x y z : List Happening) → Observes a s x y b → Observes b s y z c → Observes a s x z c) (s : Setup) (l : Line) (had p floor : ℕ) (run : Run) (was mid now is : L) (first : ScenarioRunState) (w w' : WorldState) (flicks flicks' : FlickState) (remaining : ℕ)
    (u : ComesOn Observes s l had run was mid first (IsAlone p floor)) (passes : PassesAlone Observes first p floor (scenario_run w flicks remaining) mid now) where
  abbrev here : ScenarioRunState
  here = scenario_run w flicks remaining

  -- the Steps that are passed in one call
  pub alone_passed : ComesOn Observes s l had run was now here (IsAlone p floor)
  alone_passed = comes_then Observes observes_on s l had run was mid now first (IsAlone p floor) u here (IsAlone p floor) (passes l)

  module _ (more : floor < remaining) (after : flicks' ≡ after_flick flicks) where
    -- then a Step without a mark
    pub alone_then : ObservesStep Observes w p (flick_of flicks) w' now is → ComesOn Observes s l had run was is (scenario_run w' flicks' (remaining - 1)) (IsAlone p floor)
    alone_then h =
        comes_then Observes observes_on s l had run was now is here (IsAlone p floor) alone_passed (scenario_run w' flicks' (remaining - 1)) (IsAlone p floor)
        (λ run follows next. alone_on w w' l remaining p floor run flicks flicks' more after follows next Observes now is h)

    -- then a Step that is reported
    pub alone_to : ((a : L) (s : Setup) (x : List Happening) → Observes a s x x a) → (reported : Option TurnReport) (remaining' : ℕ) → (reported ≡ None → ⊥) → MakesStep Observes w p (flick_of flicks) reported w' now is → IfSome reported (λ answer. remaining' ≡ remaining_after answer (remaining - 1)) → RunsTo Observes s l had run was is p floor remaining reported (scenario_run w' flicks' remaining')
    alone_to observes_nothing None remaining' some both fewer = absurd (some refl)
    alone_to observes_nothing (Some answer) remaining' some both fewer = (
      more,
      subst (λ (b : L). ComesTo Observes s l had run was b remaining (Some answer) (scenario_run w' flicks' remaining')) (sym both.1)
          (comes_to Observes observes_on s l had run was now now here (IsAlone p floor) alone_passed (scenario_run w' flicks' remaining') remaining (Some answer)
          (λ run follows next. alone_reported w w' l remaining p floor run flicks flicks' more after follows next Observes now answer remaining' (λ reports. observes_nothing now w.setup run.happened) both.0 fewer)),
    )

    -- a fault when the observer observes a Step without a mark
    pub alone_stops : (Stops : L → Setup → List Happening → List Happening → Fault → L → Type 0) → ((a b c : L) (s : Setup) (x y z : List Happening) (fault : Fault) → Observes a s x y b → Stops b s y z fault c → Stops a s x z fault c) → (fault : Fault) → ObservesStep (StopsBy Stops fault) w p (flick_of flicks) w' now is →
        ComesOn (StopsBy Stops fault) s l had run was is (scenario_run w' flicks' (remaining - 1)) (IsAlone p floor)
    alone_stops Stops stops_on fault h =
        comes_stop Observes observes_on s l had run was now is here (IsAlone p floor) alone_passed Stops stops_on fault (scenario_run w' flicks' (remaining - 1)) (IsAlone p floor)
        (λ run follows next. alone_on w w' l remaining p floor run flicks flicks' more after follows next (StopsBy Stops fault) now is h)

-- a world keeps its setup when it makes Steps in a row
pub walks_setup : (n : ℕ) (newest : Access) (overlapped : ℕ) (w w' : WorldState) (flicks flicks' : FlickState) (p : ℕ) → Walks w flicks p n newest overlapped w' flicks' → w'.setup ≡ w.setup
walks_setup zero newest overlapped w w' flicks flicks' p (same, same_flicks, none) = ap (λ (w : WorldState). w.setup) same
walks_setup (suc n) newest overlapped w w' flicks flicks' p (w1, flicks1, access, count, walks, last, made, after, counts) = made.steps.setup ∙ walks_setup n access count w w1 flicks flicks1 p walks

-- a line of Steps has made those down to the floor
pub alone_whole : {L : Type 0} (Observes : L → Setup → List Happening → List Happening → L → Type 0) (old new : ScenarioRunState) (l : Line) (p steps floor before : ℕ) (was is : L) (result : Result (Option TurnReport) Fault) → l ≡ line.Step p steps → IfOk result (λ reported. reported ≡ None → new.remaining ≡ floor) → IfOk result (λ reported. reported ≡ None → before ≡ floor) →
    IfOk result (λ reported. (l : Line) (run : Run) → Follows old run → IsAlone p floor old.world.setup l run → RunsTo Observes old.world.setup l old.remaining run was is p floor before reported new) → IfOk result (λ reported. (run : Run) → Follows old run → ComesAlong Observes old.world.setup l old.remaining run was is floor before reported new)
alone_whole Observes old new l p steps floor before was is (Err fault) same ended at runs = tt
alone_whole Observes old new l p steps floor before was is (Ok None) same ended at runs = λ run follows. inl (comes_down Observes old.world.setup l old.remaining run was is floor before new (IsAlone p floor) (ended refl) (at refl) (runs l run follows (inl (steps, same))))
alone_whole Observes old new l p steps floor before was is (Ok (Some answer)) same ended at runs = λ run follows. runs l run follows (inl (steps, same))
