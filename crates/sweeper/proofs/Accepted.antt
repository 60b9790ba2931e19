-- Whether an event is accepted, by the entry that it adds, and the past after a refused event.
use Rattle.std.proofs.Common.{◌≡◌, true, false, List, ◌∷◌, Option, None, Some, refl, ap, sym, ◌∙◌}
use Rattle.std.specs.Prelude.{is_none}
use Rattle.std.proofs.lemmas.Bool.{and_from}
use Rattle.std.specs.List.{list_all}
use Rattle.plain_store.specs.{Setup}
use Rattle.model.specs.{Entry, Event, Past, Refusal, added, entry_of, is_event, past_of, refused}
use Rattle.world.specs.Shows.{Shows, WorldState, world_of}
use Rattle.sweeper.specs.{is_accepted}

-- an event that adds an entry is accepted
pub adds_accepted : (s : Setup) (events : List Event) (event : Event) (e : Entry) → entry_of s (past_of s events) event ≡ Some e → is_accepted s events event ≡ true
adds_accepted s events event e is = by (refused s (past_of s events) event) refl
  where
    by : (o : Option Refusal) → refused s (past_of s events) event ≡ o → is_accepted s events event ≡ true
    by None h = ap is_none h
    by (Some r) h =
        let no : None ≡ Some e = sym (ap (λ (o : Option Refusal). elim o as (λ _. Option Entry) [ Some _ ↦ None | None ↦ added s (past_of s events) event ]) h) ∙ is in
        absurd (cc)

-- an event that is refused is not accepted
pub refused_not : (s : Setup) (events : List Event) (event : Event) (r : Refusal) → refused s (past_of s events) event ≡ Some r → is_accepted s events event ≡ false
refused_not s events event r is = ap is_none is

-- a refused event leaves the past unchanged
pub past_kept : (s : Setup) (events : List Event) (event : Event) (r : Refusal) → refused s (past_of s events) event ≡ Some r → past_of s (event ∷ events) ≡ past_of s events
past_kept s events event r is =
    ap (λ (o : Option Entry). elim o as (λ _. Past) [ None ↦ past_of s events | Some e ↦ e ∷ past_of s events ])
    (ap (λ (o : Option Refusal). elim o as (λ _. Option Entry) [ Some _ ↦ None | None ↦ added s (past_of s events) event ]) is)

-- a world that shows some events therefore shows the refused event too
pub shows_refused : (w : WorldState) (events : List Event) (event : Event) (r : Refusal) → Shows w events → is_event event ≡ true → refused w.setup (past_of w.setup events) event ≡ Some r → Shows w (event ∷ events)
shows_refused w events event r shows given is = record {
  good = shows.good;
  given = record { opening = shows.given.opening; commands = and_from (is_event event) (list_all is_event events) given shows.given.commands };
  shown = shows.shown ∙ ap (world_of w.setup) (sym (past_kept w.setup events event r is));
}
