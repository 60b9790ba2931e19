-- The rounds of a runner: some are made, and the others lead to a run of the past to which all of them lead.
use Rattle.std.proofs.Common.{◌≡◌, ℕ, suc, ◌-◌, ◌<◌, Bool, false, List, refl, ap, sym, subst, ◌∙◌, arith}
use Rattle.std.specs.Prelude.{Ok}
use Rattle.plain_store.specs.{Setup, checked}
use Rattle.model.specs.{AreGiven, Event, past_of}
use Rattle.model.specs.declared.events.Event.TheVariants.{Step}
use Rattle.sweeper.specs.{Follows, IsAlone, OfRun, OthersRest, RunnerState, RunsBy, goes, is_accepted, round, rounds, steps_of}
use Rattle.sweeper.specs.declared.round_steps.RoundSteps.TheVariants.{NoProcess, One}
use Rattle.sweeper.proofs.Alone.{lone_rounds, none_goes}
use Rattle.sweeper.proofs.Going.{ended}
use Rattle.sweeper.proofs.Pasts.{HaveOnePast, follows_past, past_more}
use Rattle.sweeper.proofs.Soundness.{given_rounds}

module _ (s : Setup) (v : Bool) (most : ℕ) (events : List Event) where
  -- the remaining rounds lead from the present run to one of the past to which all rounds lead from the first run
  pub record Rounding (r : RunnerState) (remaining : ℕ) : Type 0 where
    pub now : List Event
    pub follows : Follows r now
    pub given : AreGiven s events
    pub whole : HaveOnePast s (rounds s v remaining now) (rounds s v most events)

  pub rounding_first : (r : RunnerState) → r.core.setup ≡ s → Follows r events → Rounding r most
  rounding_first r same follows = record {
    now = events;
    follows = follows;
    given = subst (λ s. AreGiven s events) same follows.shows.given;
    whole = refl;
  }

  -- it shows a run of the past to which all rounds lead
  shown_all : (r : RunnerState) → r.core.setup ≡ s → (done : List Event) → Follows r done → AreGiven s events → HaveOnePast s done (rounds s v most events) → Follows r (rounds s v most events)
  shown_all r same done follows given whole =
      follows_past r done (rounds s v most events) follows (subst (λ s'. AreGiven s' (rounds s v most events)) (sym same) (given_rounds s v most events given))
      (subst (λ s'. past_of s' done ≡ past_of s' (rounds s v most events)) (sym same) whole)

  -- no round remains
  pub rounding_over : (r : RunnerState) → r.core.setup ≡ s → (remaining : ℕ) → remaining ≡ 0 → Rounding r remaining → Follows r (rounds s v most events)
  rounding_over r same remaining none g = shown_all r same g.now g.follows g.given (ap (λ n. past_of s (rounds s v n g.now)) (sym none) ∙ g.whole)

  -- a round is made
  module _ (old r : RunnerState) (same : old.core.setup ≡ s) (kept : r.core.setup ≡ s) (remaining : ℕ) (some : 0 < remaining) (makes : RunsBy old r (λ s. round s v)) (g : Rounding old remaining) where
    pub rounding_on : Rounding r (remaining - 1)
    rounding_on = record {
      now = round s v g.now;
      follows = subst (λ s. Follows r (round s v g.now)) same (makes g.now g.follows);
      given = g.given;
      whole =
          let all : suc (remaining - 1) ≡ remaining = omega (arith, some) in
          past_more s v (remaining - 1) g.now ∙ ap (λ n. past_of s (rounds s v n g.now)) all ∙ g.whole;
    }

    good : checked s ≡ Ok tt
    good = subst (λ s. checked s ≡ Ok tt) same g.follows.shows.good

    -- after it no process has a step to make
    pub rounds_ended : OfRun old (λ s events. OthersRest s v NoProcess (round s v events)) → Follows r (rounds s v most events)
    unfolding rounding_on
    rounds_ended others =
        let now : List Event = round s v g.now in
        let none : (q : ℕ) → is_accepted s now (Step q v) ≡ false = subst (λ s. OthersRest s v NoProcess (round s v g.now)) same (others g.now g.follows) in
        shown_all r kept now rounding_on.follows g.given
        (sym (ap (past_of s) (ended (goes s v) (round s v) (remaining - 1) now (none_goes s good v now none))) ∙ rounding_on.whole)

    -- after it one process alone has steps to make, and makes them
    pub rounds_alone : (p : ℕ) (new : RunnerState) → new.core.setup ≡ s → OfRun old (λ s events. OthersRest s v (One p) (round s v events)) → RunsBy r new (λ s. steps_of s p v (remaining - 1)) → Follows new (rounds s v most events)
    unfolding rounding_on
    rounds_alone p new still others walks =
        let now : List Event = round s v g.now in
        let alone : IsAlone s v p now = subst (λ s. OthersRest s v (One p) (round s v g.now)) same (others g.now g.follows) in
        shown_all new still (steps_of s p v (remaining - 1) now)
        (subst (λ s. Follows new (steps_of s p v (remaining - 1) now)) kept (walks now rounding_on.follows)) g.given
        (sym (lone_rounds s good v p (remaining - 1) now alone) ∙ rounding_on.whole)
