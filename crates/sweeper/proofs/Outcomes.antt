-- The outcomes that a sweep keeps: how a run takes one, and how a run becomes one.
use Rattle.std.proofs.Common.{◌≡◌, ℕ, Bool, true, List, None, Ok, Some, set, get_or, refl, ap, sym, subst, ◌∙◌}
use Rattle.std.proofs.lemmas.List.Elements.{All-contains, All-set}
use Rattle.plain_store.specs.{Command, Setup, checked}
use Rattle.model.specs.{AreGiven, Event, history, past_of}
use Rattle.world.specs.{AreAlikeCores, CoreState}
use Rattle.world.proofs.WorldOpen.{core-shown, core_of}
use Rattle.sweeper.specs.{AreKnown, AreUnknown, EndsRun, Follows, HasOutcome, IsKnown, IsUnknown, KnownOutcome, LearnsFrom, MakesEnd, Run, RunnerState, are_commands, ended, goes}
use Rattle.sweeper.proofs.Alike.{same_end}
use Rattle.sweeper.proofs.Soundness.{given_calls}

-- the outcome of the present core by this flick
abbrev pub outcome_here : RunnerState → Bool → Bool → KnownOutcome
outcome_here r v stuck = record { core = r.core; value = v; stuck = Some stuck }

-- a run whose outcome is known ends in that way
pub ends_known : (r : RunnerState) (known : List KnownOutcome) (calls : List (ℕ × Command)) (v stuck : Bool) → are_commands calls ≡ true → HasOutcome known r.core v stuck → EndsRun r known calls v stuck
ends_known r known calls v stuck sound found all events follows =
    let start : Run = record { events = events; stuck = goes r.core.setup v events } in
    let is : IsKnown r.core.setup calls found.of = All-contains (IsKnown r.core.setup calls) known found.of all found.among in
    record {
      good = follows.shows.good;
      given = given_calls r.core.setup v calls start sound follows.shows.given;
      stuck = sym (is.outcome stuck found.outcome r.core events found.alike follows.shows) ∙ ap (λ v. (ended r.core.setup calls v events).stuck) found.value;
    }

-- a run that makes its calls ends as they do
pub ends_made : (r then : RunnerState) (known : List KnownOutcome) (calls : List (ℕ × Command)) (v met : Bool) → then.core.setup ≡ r.core.setup → MakesEnd r calls v met then → EndsRun r known calls v met
ends_made r then known calls v met kept made all events follows =
    let run = made events follows in
    record {
      good = follows.shows.good;
      given = subst (λ (s : Setup). AreGiven s (ended r.core.setup calls v events).events) kept run.follows.shows.given;
      stuck = run.stuck;
    }

-- its outcome is that of every run whose core is alike
same_stuck : (s : Setup) → checked s ≡ Ok tt → (calls : List (ℕ × Command)) (v : Bool) (x y : List Event) (t : Setup) → s ≡ t → AreAlikeCores (core_of s (past_of s x)) (core_of t (past_of t y)) → (ended t calls v y).stuck ≡ (ended s calls v x).stuck
same_stuck s good calls v x y t same =
    subst (λ (t : Setup). AreAlikeCores (core_of s (past_of s x)) (core_of t (past_of t y)) → (ended t calls v y).stuck ≡ (ended s calls v x).stuck) same (λ alike. sym (same_end s good calls v x y alike))

pub made_known : (r then : RunnerState) (calls : List (ℕ × Command)) (v met : Bool) (events : List Event) → Follows r events → MakesEnd r calls v met then → IsKnown r.core.setup calls (outcome_here r v met)
made_known r then calls v met events follows made = record {
  setup = refl;
  outcome = λ stuck is other x alike has.
      let s : Setup = r.core.setup in
      let cores : AreAlikeCores (core_of s (past_of s events)) (core_of other.setup (past_of other.setup x)) =
      subst (AreAlikeCores (core_of s (past_of s events))) (core-shown other (history other.setup (past_of other.setup x)) x has)
      (subst (λ (c : CoreState). AreAlikeCores c other) (core-shown r.core (history s (past_of s events)) events follows.shows) alike) in
      let same : met ≡ stuck = cc in
      same_stuck s follows.shows.good calls v events x other.setup alike.setup cores ∙ sym (made events follows).stuck ∙ same;
}

-- so the known outcomes stay known when it replaces the oldest one
pub learned : (r then : RunnerState) (calls : List (ℕ × Command)) (v met : Bool) (inside old : List KnownOutcome) (oldest : ℕ) (new : KnownOutcome) → inside ≡ old → new ≡ outcome_here r v met → MakesEnd r calls v met then →
    LearnsFrom r calls old (set inside oldest new)
learned r then calls v met inside old oldest new seen is made events follows all =
    All-set (IsKnown r.core.setup calls) inside oldest new
    (subst (IsKnown r.core.setup calls) (sym is) (made_known r then calls v met events follows made))
    (subst (AreKnown r.core.setup calls) (sym seen) all)

-- before the first run has ended, all outcomes are known for all calls
pub known_first : (s : Setup) (calls : List (ℕ × Command)) (known : List KnownOutcome) → AreUnknown s known → AreKnown s calls known
known_first s calls known none k d within =
    let is : IsUnknown s (get_or known k d) = none k d within in
    record { setup = is.setup; outcome = λ stuck has. let no : None ≡ Some stuck = sym is.none ∙ has in absurd (cc) }
