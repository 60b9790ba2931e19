-- An accepted event adds one entry, of its own process.
use Rattle.std.proofs.Common.{◌≡◌, ◌≢◌, ℕ, List, ◌∷◌, Option, Some, None, refl, sym, ap, ◌∙◌}
use Rattle.plain_store.specs.{Setup}
use Rattle.model.specs.{Entry, Event, Past, Refusal, added, entry_of, own, past_of, process_of, refused}
use Rattle.model.proofs.Accepted.{accepted_adds}
use Rattle.model.proofs.Width.{IsGood, is_good}
use Rattle.laws.proofs.Frame.{own-other}
use Rattle.laws.proofs.FrameEvents.{accepted}
use Rattle.laws.proofs.lock.own_entries.Goals as goal

others_stay : (s : Setup) → IsGood s → (events : List Event) (event : Event) (q : ℕ) → q ≢ process_of event → own q (past_of s (event ∷ events)) ≡ own q (past_of s events)
others_stay s g events event q apart = go (entry_of s (past_of s events) event) refl
  where
    go : (x : Option Entry) → entry_of s (past_of s events) event ≡ x → own q (elim x as (λ _. Past) [ None ↦ past_of s events | Some e ↦ e ∷ past_of s events ]) ≡ own q (past_of s events)
    go None h = refl
    go (Some e) h = own-other q e (past_of s events) (λ is. apart (sym is ∙ (accepted s g events event e h).process))

refused_adds : (s : Setup) (past : Past) (event : Event) (r : Option Refusal) → r ≢ None →
    elim (elim r as (λ _. Option Entry) [ Some x ↦ None | None ↦ added s past event ]) as (λ _. Past) [ None ↦ past | Some e ↦ e ∷ past ] ≡ past
refused_adds s past event (Some r) h = refl
refused_adds s past event None h = absurd (h refl)

pub returns : goal.returns
returns x = record {
  own = λ s h events event e is. (accepted s (is_good s h) events event e is).process;
  others = λ s h events event q apart. others_stay s (is_good s h) events event q apart;
  accepted = λ s h events event r.
      let e = accepted_adds s (is_good s h) events event r in
      (e.0, ap (λ o. elim o as (λ _. Past) [ None ↦ past_of s events | Some e ↦ e ∷ past_of s events ]) e.1);
  refused = λ s events event h. refused_adds s (past_of s events) event (refused s (past_of s events) event) h;
}
