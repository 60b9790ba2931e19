-- The entries that an event adds.
use Rattle.std.specs.Prelude.{◌≡◌, ◌≢◌, refl, ℕ, List, ◌∷◌, Option, None, Some, cond, ◌==◌}
use Rattle.std.proofs.Common.{sym, ◌∙◌, ap, ne_eqb}
use Rattle.plain_store.specs.{Setup}
use Rattle.model.specs.{Entry, Event, Past, Refusal, added, entry_of, own, past_of, process_of, refused}
use Rattle.model.proofs.Accepted.{accepted_adds}
use Rattle.model.proofs.Width.{IsGood, is_good}
use Rattle.model.proofs.World.{entry-accepted, entry_view, view}
use Rattle.model.proofs.laws.events_add_entries.Goals as goal

own_entry : (s : Setup) → IsGood s → (events : List Event) (event : Event) (e : Entry) → entry_of s (past_of s events) event ≡ Some e → e.process ≡ process_of event
own_entry s g events event e is =
    let a = entry-accepted s (past_of s events) event e is in
    (entry_view s g (past_of s events) event e a.1 (view s g events (process_of event)) a.2).0

others : (s : Setup) → IsGood s → (events : List Event) (event : Event) (q : ℕ) → q ≢ process_of event → own q (past_of s (event ∷ events)) ≡ own q (past_of s events)
others s g events event q apart = go (entry_of s (past_of s events) event) refl
  where
    go : (x : Option Entry) → entry_of s (past_of s events) event ≡ x → own q (elim x as (λ _. Past) [ None ↦ past_of s events | Some e ↦ e ∷ past_of s events ]) ≡ own q (past_of s events)
    go None h = refl
    go (Some e) h =
        let other : (e.process == q) ≡ Rattle.std.specs.Prelude.false = ne_eqb e.process q (λ u. apart (sym u ∙ own_entry s g events event e h)) in
        ap (λ b. cond b (e ∷ own q (past_of s events)) (own q (past_of s events))) other

nothing : (s : Setup) (events : List Event) (event : Event) → refused s (past_of s events) event ≢ None → past_of s (event ∷ events) ≡ past_of s events
nothing s events event h = go (refused s (past_of s events) event) h
  where
    go : (r : Option Refusal) → r ≢ None → elim (elim r as (λ _. Option Entry) [ Some x ↦ None | None ↦ added s (past_of s events) event ]) as (λ _. Past) [ None ↦ past_of s events | Some e ↦ e ∷ past_of s events ] ≡ past_of s events
    go (Some r) h = refl
    go None h = absurd (h refl)

pub returns : goal.returns
returns x = record {
  own = λ s h events event e is. own_entry s (is_good s h) events event e is;
  others = λ s h events event q apart. others s (is_good s h) events event q apart;
  accepted = λ s h events event r.
      let e = accepted_adds s (is_good s h) events event r in
      (e.0, ap (λ o. elim o as (λ _. Past) [ None ↦ past_of s events | Some e ↦ e ∷ past_of s events ]) e.1);
  refused = λ s events event h. nothing s events event h;
}
