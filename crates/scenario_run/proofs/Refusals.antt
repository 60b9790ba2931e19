-- A refused event adds no entry, and an accepted one adds its entry.
use Rattle.std.proofs.Common.{◌≡◌, true, List, ◌∷◌, Option, None, Some, refl, ap, sym, ◌∙◌}
use Rattle.std.proofs.lemmas.Bool.{and_from}
use Rattle.std.specs.List.{list_all}
use Rattle.model.specs.{Access, Entry, Event, Mark, Past, Refusal, added, entry_of, is_event, past_of, process_of, refused}
use Rattle.plain_store.specs.{Setup}
use Rattle.world.specs.Shows.{Shows, WorldState, world_of}

-- an event that is refused adds no entry
pub none_added : (s : Setup) (past : Past) (event : Event) (r : Refusal) → refused s past event ≡ Some r → entry_of s past event ≡ None
none_added s past event r is = ap (λ (o : Option Refusal). elim o as (λ _. Option Entry) [ Some _ ↦ None | None ↦ added s past event ]) is

-- therefore it leaves the past unchanged
pub past_kept : (s : Setup) (events : List Event) (event : Event) (r : Refusal) → refused s (past_of s events) event ≡ Some r → past_of s (event ∷ events) ≡ past_of s events
past_kept s events event r is = ap (λ (o : Option Entry). elim o as (λ _. Past) [ None ↦ past_of s events | Some e ↦ e ∷ past_of s events ]) (none_added s (past_of s events) event r is)

-- an event that adds an entry was not refused
pub not_refused : (s : Setup) (past : Past) (event : Event) (e : Entry) → entry_of s past event ≡ Some e → refused s past event ≡ None
not_refused s past event e is = by (refused s past event) refl
  where
    by : (o : Option Refusal) → refused s past event ≡ o → refused s past event ≡ None
    by None h = h
    by (Some r) h = let no : None ≡ Some e = sym (none_added s past event r h) ∙ is in absurd (cc)

-- the entry of an accepted event is the one that is added
pub entry_added : (s : Setup) (past : Past) (event : Event) (e : Entry) → entry_of s past event ≡ Some e → added s past event ≡ Some e
entry_added s past event e is =
    sym (ap (λ (o : Option Refusal). elim o as (λ _. Option Entry) [ Some _ ↦ None | None ↦ added s past event ]) (not_refused s past event e is)) ∙ is

-- a world that shows some events also shows them with a refused one
pub shows_refused : (w : WorldState) (events : List Event) (event : Event) (r : Refusal) → Shows w events → is_event event ≡ true → refused w.setup (past_of w.setup events) event ≡ Some r → Shows w (event ∷ events)
shows_refused w events event r shows given is = record {
  good = shows.good;
  given = record { opening = shows.given.opening; commands = and_from (is_event event) (list_all is_event events) given shows.given.commands };
  shown = shows.shown ∙ ap (world_of w.setup) (sym (past_kept w.setup events event r is));
}

-- the entry of an event with these marks
abbrev pub entry_by : Event → Option Access → List Mark → Entry
entry_by event access marks = record { process = process_of event; access = access; marks = marks }
