-- The record of a list of events, one event after the other.
use Rattle.std.proofs.Common.{◌≡◌, ℕ, true, ◌+◌, ◌<◌, ◌≤◌, List, [], ◌∷◌, length, reverse, take, get_or, ap, sym, subst, ◌∙◌, inl, inr}
use Rattle.std.proofs.lemmas.List.{reverse-append, take_all, take_more}
use Rattle.std.specs.Global.{Vec}
use Rattle.plain_store.specs.{Setup}
use Rattle.scenario_run.specs.model.{AreGiven, Entry, Event, Refusal, is_event, past_of}
use Rattle.scenario_run.specs.model.declared.refusals.Refusal.TheVariants.{Memory}
use Rattle.scenario_run.specs.world.{IsTurnedAway}
use Rattle.scenario_run.specs.world.Shows.{Shows, WorldState}
use Rattle.engines.specs.{RecordsEvent}
use Rattle.scenario_run.proofs.Refusals.{past_kept, shows_refused}

-- an event that is refused
pub records_refused : (old new : WorldState) (event : Event) (r : Refusal) (had has : Vec Entry) → is_event event ≡ true → IsTurnedAway old event r → (r ≡ Memory → ⊥) → new ≡ old → has.items ≡ had.items → RecordsEvent event old new had has
records_refused old new event r had has given (inr away) other same kept events shows are = absurd (other away.1)
records_refused old new event r had has given (inl away) other same kept events shows are = record {
  shows = subst (λ (w : WorldState). Shows w (event ∷ events)) (sym same) (shows_refused old events event r shows given (away events shows));
  setup = ap (λ (w : WorldState). w.setup) same;
  entries_are = kept ∙ are ∙ ap reverse (sym (past_kept old.setup events event r (away events shows)));
}

-- the events up to the next one
pub events_more : (events : List Event) (k : ℕ) (event : Event) → k < length events → event ≡ get_or events k event → reverse (take (k + 1) events) ≡ event ∷ reverse (take k events)
events_more events k event within is =
    ap reverse (take_more events k event within) ∙ reverse-append (take k events) (get_or events k event ∷ []) ∙ ap (λ e. e ∷ reverse (take k events)) (sym is)

-- after the last event all events are in range, and the entries are their record
pub all_recorded : (s : Setup) (events : List Event) (k : ℕ) (world : WorldState) (entries : List Entry) → length events ≤ k → Shows world (reverse (take k events)) → world.setup ≡ s → entries ≡ reverse (past_of s (reverse (take k events))) →
    AreGiven s (reverse events) × (entries ≡ reverse (past_of s (reverse events)))
all_recorded s events k world entries past shows setup are =
    let whole : take k events ≡ events = take_all k events past in
    let given : AreGiven s (reverse (take k events)) = subst (λ (s : Setup). AreGiven s (reverse (take k events))) setup shows.given in
    (subst (λ (l : List Event). AreGiven s (reverse l)) whole given, are ∙ ap (λ (l : List Event). reverse (past_of s (reverse l))) whole)
