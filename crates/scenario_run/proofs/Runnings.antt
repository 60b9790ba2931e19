-- Steps of a line, one after another. Steps without a mark are observed, and none of them changes which processes may make the next Step.
use Rattle.std.proofs.Common.{◌≡◌, ℕ, zero, suc, ◌+◌, ◌-◌, ◌<◌, ◌≤◌, Bool, List, [], ◌∷◌, ◌++◌, Option, None, Some, inr, refl, ap, sym, subst, ◌∙◌, arith}
use Rattle.plain_store.specs.{Setup}
use Rattle.model.specs.declared.events.Event.TheVariants.{Step}
use Rattle.scenario.specs.{Line}
use Rattle.scenario.specs.files.{Fault}
use Rattle.world.specs.choices.{FlickState, after_flick, flick_of}
use Rattle.world.specs.Shows.{Shows, WorldState}
use Rattle.world.specs.{StepsQuietly}
use Rattle.scenario_run.specs.{AddsMarks, ComesAlong, ComesDown, ComesOn, ComesTo, ScenarioRunState, Follows, Happening, ObservesStep, IsQuiet, LeavesRoom, Makes, QuietTurns, Run, StopsBy, Reports, ReportsOf, ReportsStep, TurnReport, Tries, Turn, scenario_run, made_turn, next_step, past_in, rest_of, room_wanted, stepped, tried, turn_of, turns_in}
use Rattle.scenario_run.proofs.Grows.{Grows, rest_grows}
use Rattle.scenario_run.proofs.TurnLaw.{turn_less, turn_on}

-- Turns without a mark.

-- turns without a mark, after others
pub turns_then : (s : Setup) (line : Line) (quiet more remaining : ℕ) (run : Run) (mid : ℕ) (run_mid : Run) (remaining' : ℕ) (run' : Run) → QuietTurns s line quiet remaining run mid run_mid → QuietTurns s line more mid run_mid remaining' run' →
    QuietTurns s line (quiet + more) remaining run remaining' run'
turns_then s line zero more remaining run mid run_mid remaining' run' (same, at) rest =
    let all : more ≡ zero + more = omega arith in
    subst (λ k. QuietTurns s line k remaining run remaining' run') all (subst (λ n. QuietTurns s line more n run remaining' run') same (subst (λ r. QuietTurns s line more mid r remaining' run') at rest))
turns_then s line (suc quiet) more remaining run mid run_mid remaining' run' (first, turns) rest =
    let all : suc (quiet + more) ≡ suc quiet + more = omega arith in
    subst (λ k. QuietTurns s line k remaining run remaining' run') all
    (first, turns_then s line quiet more (turn_of s line remaining run).remaining (turn_of s line remaining run).run mid run_mid remaining' run' turns rest)

-- turns without a mark do not change how the line ends
pub rest_quiet : (s : Setup) (line : Line) (quiet remaining : ℕ) (run : Run) (remaining' : ℕ) (run' : Run) → remaining ≤ turns_in line → QuietTurns s line quiet remaining run remaining' run' → (remaining' ≤ turns_in line) × (rest_of s line remaining run ≡ rest_of s line remaining' run')
rest_quiet s line zero remaining run remaining' run' few (same, at) = (omega (arith, same, few), λ i. rest_of s line (sym same i) (sym at i))
rest_quiet s line (suc quiet) remaining run remaining' run' few (first, more) =
    let less = turn_less s line remaining run in
    let next = rest_quiet s line quiet (turn_of s line remaining run).remaining (turn_of s line remaining run).run remaining' run' (omega (arith, less, few)) more in
    (next.0, turn_on s line remaining run few ∙ next.1)

-- A Step.

-- the run from which a Step is made: no more has happened, and its flick comes from `source`
abbrev pub drawn_run : Run → FlickState → Run
drawn_run run source = record { happened = run.happened; flicks = source }

-- the next turn of a line makes a Step of p by this flick, and leaves `remaining'` turns
pub record IsStep (w : WorldState) (line : Line) (remaining p : ℕ) (flick : Bool) (run : Run) (source : FlickState) (remaining' : ℕ) : Type 0 where
  pub shows : Shows w (tried run.happened)
  pub by : flick ≡ flick_of source
  pub turn : turn_of w.setup line remaining run ≡ made_turn p remaining' (drawn_run run source)

-- the marks that a Step without a mark adds
pub quiet_adds : (w w' : WorldState) (p : ℕ) (flick : Bool) (run : Run) (source : FlickState) → StepsQuietly w p flick w' → Shows w (tried run.happened) → flick ≡ flick_of source → AddsMarks w.setup (past_in w.setup run) (next_step p (drawn_run run source)) []
quiet_adds w w' p flick run source q shows is = subst (λ b. AddsMarks w.setup (past_in w.setup run) (Step p b) []) is (Some q.access, q.adds (tried run.happened) shows)

-- Steps without a mark, followed by others
comes_both : {L : Type 0} (A B C : L → Setup → List Happening → List Happening → L → Type 0) (s : Setup) (line : Line) (had : ℕ) (start : Run) (was mid is : L) (scenario_run : ScenarioRunState) (Next : Setup → Line → Run → Type 0) → ComesOn A s line had start was mid scenario_run Next →
    ((x y z : List Happening) → A was s x y mid → B mid s y z is → C was s x z is) → (scenario_run' : ScenarioRunState) (Then : Setup → Line → Run → Type 0) → ((run : Run) → Follows scenario_run run → Next scenario_run.world.setup line run → ComesOn B scenario_run.world.setup line scenario_run.remaining run mid is scenario_run' Then) →
    ComesOn C s line had start was is scenario_run' Then
comes_both A B C s line had start was mid is scenario_run Next u both scenario_run' Then on =
    let here : Next scenario_run.world.setup line u.now = subst (λ (s : Setup). Next s line u.now) (sym u.setup) u.next in
    let v : ComesOn B s line scenario_run.remaining u.now mid is scenario_run' Then = subst (λ s. ComesOn B s line scenario_run.remaining u.now mid is scenario_run' Then) u.setup (on u.now u.follows here) in
    record {
      quiet = u.quiet + v.quiet;
      now = v.now;
      turns = turns_then s line u.quiet v.quiet had start scenario_run.remaining u.now scenario_run'.remaining v.now u.turns v.turns;
      observes = both start.happened u.now.happened v.now.happened u.observes v.observes;
      follows = v.follows;
      setup = v.setup;
      next = v.next;
    }

module _ {L : Type 0} (Observes : L → Setup → List Happening → List Happening → L → Type 0) where
  -- Before the first.
  pub comes_start : (line : Line) (start : Run) (old new : ScenarioRunState) (a : L) (Next : Setup → Line → Run → Type 0) → Observes a old.world.setup start.happened start.happened a → new ≡ old → Follows old start → Next old.world.setup line start → ComesOn Observes old.world.setup line old.remaining start a a new Next
  comes_start line start old new a Next nothing same follows next =
      subst (λ (c : ScenarioRunState). ComesOn Observes old.world.setup line old.remaining start a a c Next) (sym same)
      (record { quiet = 0; now = start; turns = (refl, refl); observes = nothing; follows = record { shows = follows.shows; flicks = follows.flicks }; setup = refl; next = next })

  -- a turn that is reported, with no turn before it
  pub at_once : (line : Line) (start : Run) (old new : ScenarioRunState) (a : L) (answer : Option TurnReport) → Observes a old.world.setup start.happened start.happened a → Makes old start (turn_of old.world.setup line old.remaining start) answer new → ComesTo Observes old.world.setup line old.remaining start a a old.remaining answer new
  at_once line start old new a answer nothing m = record {
    quiet = 0;
    now = start;
    turns = (refl, refl);
    observes = nothing;
    reports = m.reports;
    follows = m.follows;
    remaining_is = m.remaining;
    setup = m.setup;
  }

  -- the only turn of a line, above a floor
  pub comes_once : (line : Line) (start : Run) (old new : ScenarioRunState) (a : L) (floor : ℕ) (answer : Option TurnReport) → Observes a old.world.setup start.happened start.happened a → floor < old.remaining → Makes old start (turn_of old.world.setup line old.remaining start) answer new → ComesAlong Observes old.world.setup line old.remaining start a a floor old.remaining answer new
  comes_once line start old new a floor None nothing above m = inr (above, at_once line start old new a None nothing m)
  comes_once line start old new a floor (Some answer) nothing above m = (above, at_once line start old new a (Some answer) nothing m)

  -- turns down to the floor
  pub comes_down : (s : Setup) (line : Line) (had : ℕ) (start : Run) (was is : L) (floor before : ℕ) (scenario_run : ScenarioRunState) (Next : Setup → Line → Run → Type 0) → scenario_run.remaining ≡ floor → before ≡ floor → ComesOn Observes s line had start was is scenario_run Next → ComesDown Observes s line had start was is floor before scenario_run
  comes_down s line had start was is floor before scenario_run Next remaining_is before_is u = record {
    quiet = u.quiet;
    now = u.now;
    turns = subst (λ n. QuietTurns s line u.quiet had start n u.now) remaining_is u.turns;
    observes = u.observes;
    follows = u.follows;
    remaining_is = remaining_is;
    before_is = before_is;
    setup = u.setup;
  }

  -- a Step without a mark
  pub one_on : (w w' : WorldState) (line : Line) (remaining p : ℕ) (flick : Bool) (run : Run) (source flicks : FlickState) (remaining' : ℕ) (was is : L) (Next : Setup → Line → Run → Type 0) → IsStep w line remaining p flick run source remaining' → ObservesStep Observes w p flick w' was is → flicks ≡ after_flick source →
      Next w.setup line (stepped p (drawn_run run source)) → ComesOn Observes w.setup line remaining run was is (scenario_run w' flicks remaining') Next
  one_on w w' line remaining p flick run source flicks remaining' was is Next step h after next =
      let s : Setup = w.setup in
      let q = h.step in
      let now : Run = stepped p (drawn_run run source) in
      let adds : AddsMarks s (past_in s run) (next_step p (drawn_run run source)) [] = quiet_adds w w' p flick run source q step.shows step.by in
      record {
        quiet = 1;
        now = now;
        turns = subst (λ (t : Turn). IsQuiet s (past_in s run) t.this × ((remaining' ≡ t.remaining) × (now ≡ t.run))) (sym step.turn) (adds, (refl, refl));
        observes = subst (λ b. Observes was s run.happened (Tries (Step p b) ∷ run.happened) is) step.by (h.observes run.happened step.shows);
        follows = record { shows = subst (λ b. Shows w' (Step p b ∷ tried run.happened)) step.by (q.shows (tried run.happened) step.shows); flicks = after };
        setup = q.setup;
        next = next;
      }

  -- a Step that is reported
  pub one_reported : (w w' : WorldState) (line : Line) (remaining p : ℕ) (flick : Bool) (run : Run) (source flicks : FlickState) (remaining' : ℕ) (a : L) (answer : TurnReport) → (ReportsOf w.setup (past_in w.setup run) (Tries (next_step p (drawn_run run source))) answer → Observes a w.setup run.happened run.happened a) → IsStep w line remaining p flick run source remaining' → ReportsStep w p flick answer w' →
      flicks ≡ after_flick source → ComesTo Observes w.setup line remaining run a a remaining (Some answer) (scenario_run w' flicks remaining')
  one_reported w w' line remaining p flick run source flicks remaining' a answer nothing step t after =
      let s : Setup = w.setup in
      let reports : ReportsOf s (past_in s run) (Tries (next_step p (drawn_run run source))) answer = subst (λ b. ReportsOf s (past_in s run) (Tries (Step p b)) answer) step.by (t.reports (tried run.happened) step.shows) in
      let now : Run = stepped p (drawn_run run source) in
      let follows : Follows (scenario_run w' flicks remaining') now = record { shows = subst (λ b. Shows w' (Step p b ∷ tried run.happened)) step.by (t.shows (tried run.happened) step.shows); flicks = after } in
      record {
        quiet = 0;
        now = run;
        turns = (refl, refl);
        observes = nothing reports;
        reports = subst (λ (t : Turn). Reports s (past_in s run) t.this (Some answer)) (sym step.turn) (reports, t.marked);
        follows = subst (λ (t : Turn). Follows (scenario_run w' flicks remaining') t.run) (sym step.turn) follows;
        remaining_is = subst (λ (t : Turn). remaining' ≡ t.remaining) (sym step.turn) refl;
        setup = t.setup;
      }

  -- after Steps without a mark
  module _ (observes_on : (a b c : L) (s : Setup) (x y z : List Happening) → Observes a s x y b → Observes b s y z c → Observes a s x z c) (s : Setup) (line : Line) (had : ℕ) (start : Run) (was mid is : L) (scenario_run : ScenarioRunState) (Next : Setup → Line → Run → Type 0) (u : ComesOn Observes s line had start was mid scenario_run Next) where
    here : Next scenario_run.world.setup line u.now
    here = subst (λ (s : Setup). Next s line u.now) (sym u.setup) u.next

    pub comes_then : (scenario_run' : ScenarioRunState) (Then : Setup → Line → Run → Type 0) → ((run : Run) → Follows scenario_run run → Next scenario_run.world.setup line run → ComesOn Observes scenario_run.world.setup line scenario_run.remaining run mid is scenario_run' Then) → ComesOn Observes s line had start was is scenario_run' Then
    comes_then scenario_run' Then = comes_both Observes Observes Observes s line had start was mid is scenario_run Next u (λ x y z before then. observes_on was mid is s x y z before then) scenario_run' Then

    pub comes_to : (scenario_run' : ScenarioRunState) (before : ℕ) (answer : Option TurnReport) → ((run : Run) → Follows scenario_run run → Next scenario_run.world.setup line run → ComesTo Observes scenario_run.world.setup line scenario_run.remaining run mid is before answer scenario_run') → ComesTo Observes s line had start was is before answer scenario_run'
    comes_to scenario_run' before answer on =
        let c : ComesTo Observes s line scenario_run.remaining u.now mid is before answer scenario_run' = subst (λ s. ComesTo Observes s line scenario_run.remaining u.now mid is before answer scenario_run') u.setup (on u.now u.follows here) in
        record {
          quiet = u.quiet + c.quiet;
          now = c.now;
          turns = turns_then s line u.quiet c.quiet had start scenario_run.remaining u.now before c.now u.turns c.turns;
          observes = observes_on was mid is s start.happened u.now.happened c.now.happened u.observes c.observes;
          reports = c.reports;
          follows = c.follows;
          remaining_is = c.remaining_is;
          setup = c.setup;
        }

    -- then a fault
    pub comes_stop : (Stops : L → Setup → List Happening → List Happening → Fault → L → Type 0) → ((a b c : L) (s : Setup) (x y z : List Happening) (fault : Fault) → Observes a s x y b → Stops b s y z fault c → Stops a s x z fault c) → (fault : Fault) (scenario_run' : ScenarioRunState) (Then : Setup → Line → Run → Type 0) →
        ((run : Run) → Follows scenario_run run → Next scenario_run.world.setup line run → ComesOn (StopsBy Stops fault) scenario_run.world.setup line scenario_run.remaining run mid is scenario_run' Then) → ComesOn (StopsBy Stops fault) s line had start was is scenario_run' Then
    comes_stop Stops stops_on fault scenario_run' Then = comes_both Observes (StopsBy Stops fault) (StopsBy Stops fault) s line had start was mid is scenario_run Next u (λ x y z before cut. stops_on was mid is s x y z fault before cut) scenario_run' Then

-- a fault when Steps without a mark are observed: the observer has observed a prefix of what the line makes
pub line_stops : {L : Type 0} (Stops : L → Setup → List Happening → List Happening → Fault → L → Type 0) (s : Setup) (line : Line) (had : ℕ) (run : Run) (was is : L) (fault : Fault) (scenario_run : ScenarioRunState) (Next : Setup → Line → Run → Type 0) →
    ((a b : L) (s : Setup) (x y more : List Happening) (fault : Fault) → Stops a s x y fault b → Stops a s x (more ++ y) fault b) → ComesOn (StopsBy Stops fault) s line had run was is scenario_run Next → had ≤ turns_in line → Stops was s run.happened (rest_of s line had run).happened fault is
line_stops Stops s line had run was is fault scenario_run Next stops_before u few =
    let q = rest_quiet s line u.quiet had run scenario_run.remaining u.now few u.turns in
    let more : Grows u.now.happened (rest_of s line scenario_run.remaining u.now).happened = rest_grows s line scenario_run.remaining u.now in
    subst (λ l. Stops was s run.happened l fault is) (sym (ap (λ (r : Run). r.happened) q.1 ∙ more.is)) (stops_before was is s run.happened u.now.happened more.more fault u.observes)

-- Room for the turns that are left.
module _ {L : Type 0} (HasRoom : L → ℕ → Type 0) (room_less : (a : L) (n k : ℕ) → n ≤ k → HasRoom a k → HasRoom a n) (was now : L) (had remaining : ℕ) (before : LeavesRoom HasRoom was had now remaining None) where
  pub room_now : (things : ℕ) → things ≤ remaining → HasRoom was had → HasRoom now things
  room_now things few room = room_less now things (0 + remaining) (omega (arith, few)) (before 0 (room_less was (0 + had) had (omega arith) room))

  -- room after one of these turns
  pub room_after : (is : L) (reported : Option TurnReport) → 0 < remaining → LeavesRoom HasRoom now 1 is 0 reported → LeavesRoom HasRoom was had is (remaining - 1) reported
  room_after is reported some wants more room = by reported (wants (more + (remaining - 1)) (room_less now (more + (remaining - 1) + 1) (more + remaining) (omega (arith, some)) (before more room)))
    where
      by : (reported : Option TurnReport) → HasRoom is (more + (remaining - 1) + room_wanted reported 0) → HasRoom is (more + room_wanted reported (remaining - 1))
      by None there = room_less is (more + (remaining - 1)) (more + (remaining - 1) + 0) (omega arith) there
      by (Some answer) there = room_less is (more + (remaining - 1 + 1)) (more + (remaining - 1) + (0 + 1)) (omega arith) there

  -- room that suffices for more turns suffices for fewer
  pub room_fewer : (is : L) (reported : Option TurnReport) (fewer more : ℕ) → fewer ≤ more → LeavesRoom HasRoom was had is more reported → LeavesRoom HasRoom was had is fewer reported
  room_fewer is None fewer more less wants others room = room_less is (others + fewer) (others + more) (omega (arith, less)) (wants others room)
  room_fewer is (Some reported) fewer more less wants others room = room_less is (others + (fewer + 1)) (others + (more + 1)) (omega (arith, less)) (wants others room)
