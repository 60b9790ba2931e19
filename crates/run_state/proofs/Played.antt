-- A scenario's lines were played up to an event: what the observer has seen then, and what is written of it.
use Rattle.std.proofs.Common.{◌≡◌, ℕ, List, [], ◌++◌, Option, ap, sym, subst, ◌∙◌, append_assoc}
use Rattle.plain_store.specs.{Setup}
use Rattle.model.specs.{Event, Past, Taken, history, past_of}
use Rattle.calls.specs.scenario.{Script}
use Rattle.calls.specs.world.Cores.{InEachCorePast}
use Rattle.calls.specs.scenario_run.world.{CoreState, with_history}
use Rattle.calls.specs.scenario_run.world.Shows.{Shows, WorldState}
use Rattle.calls.specs.scenario_run.{ScenarioRunState, Follows, LineMade, PlaysPart, PlaysUntil, events_in, past_in, run_at_start, tried}
use Rattle.calls.specs.scenario_run.declared.play_limit.PlayLimit.TheVariants as until
use Rattle.run_state.specs.{HasSeen, Observes, HasObservedWorld, StateObserver, WritesMade, head_lines, making_line, state_lines, state_of, stated}
use Rattle.run_state.proofs.Makers.{front_is}

pub played : (said : Script) (n : ℕ) (old new : ScenarioRunState) (was is : StateObserver) (newest : Option LineMade) → old.world.setup ≡ said.setup → Follows old run_at_start →
    PlaysUntil Observes (until.Event n) old said.lines new was is newest → PlaysPart Observes said.setup said.lines (until.Event n) run_at_start new was is newest
played said n old new was is newest setup follows plays = subst (λ s. PlaysPart Observes s said.lines (until.Event n) run_at_start new was is newest) setup (plays run_at_start follows)

module _ (said : Script) (n : ℕ) (scenario_run : ScenarioRunState) (was observer : StateObserver) (newest : Option LineMade) (p : PlaysPart Observes said.setup said.lines (until.Event n) run_at_start scenario_run was observer newest) (seen : HasSeen said.setup [] was) (core : CoreState) (is : with_history core scenario_run.world.history ≡ scenario_run.world) where
  abbrev s : Setup
  s = said.setup

  abbrev past : Past
  past = past_in s p.now

  abbrev events : List Event
  events = tried p.now.happened

  now_seen : HasSeen s past observer
  now_seen = p.plays.observes seen

  setup_is : core.setup ≡ s
  setup_is = ap (λ (w : WorldState). w.setup) is ∙ p.plays.setup

  shows : Shows (with_history core scenario_run.world.history) events
  shows = subst (λ (w : WorldState). Shows w events) (sym is) p.plays.follows.shows

  pub core_setup : core.setup ≡ observer.observed_run.setup
  core_setup = setup_is ∙ sym now_seen.setup

  -- the observed run has observed the past of the scenario run
  corresponds : (taken : List Taken) → taken ≡ history scenario_run.world.setup (past_in scenario_run.world.setup p.now) → HasObservedWorld observer.observed_run core taken past
  corresponds taken are = record {
    observed = now_seen.observed;
    setup = core_setup;
    events = events;
    shows = subst (λ l. Shows (with_history core l) events) (ap (λ (w : WorldState). w.history) p.plays.follows.shows.shown ∙ sym are) shows;
    is_past = ap (λ (s : Setup). past_of s events) (sym setup_is);
  }

  -- the lines of the newest event, then the line that made it, then those of processes, registers and the history
  pub text_is : (numbers : List ℕ) (taken : List Taken) (count : ℕ) (start head made end : List ℕ) → start ≡ [] → taken ≡ history scenario_run.world.setup (past_in scenario_run.world.setup p.now) → count ≡ observer.observed_run.entries →
      InEachCorePast core (λ s past. HasSeen s past observer → head ≡ start ++ head_lines past) → WritesMade numbers said.lines newest count head made →
      ((past : Past) → HasObservedWorld observer.observed_run core taken past → end ≡ made ++ state_lines observer.observed_run.setup past) → end ≡ stated n numbers said
  text_is numbers taken count start head made end none are counted first second third =
      let writes : HasSeen s past observer → head ≡ start ++ head_lines past = subst (λ s. HasSeen s (past_of s events) observer → head ≡ start ++ head_lines (past_of s events)) setup_is (first scenario_run.world.history events shows) in
      let count_is : count ≡ events_in s p.now = counted ∙ now_seen.observed.entries in
      let line : List ℕ = making_line numbers s (events_in s p.now) run_at_start said.lines in
      let rest : List ℕ = state_lines s past in
      let headed : head ≡ head_lines past = writes now_seen ∙ ap (λ l. l ++ head_lines past) none in
      let lined : made ≡ head_lines past ++ line = second s p.now p.newest_made count_is ∙ (λ i. headed i ++ making_line numbers s (count_is i) run_at_start said.lines) in
      third past (corresponds taken are) ∙ (λ i. lined i ++ state_lines (now_seen.setup i) past) ∙ append_assoc (head_lines past) line rest
      ∙ ap (state_of numbers said) (front_is s n p.now _ p.part)
