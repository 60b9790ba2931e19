-- Pasts in which each entry keeps all laws are those of lists of events.
use Rattle.std.proofs.Common.{◌≡◌, List, [], ◌∷◌, reverse, Option, Some, None, Ok, refl, sym, ap, subst, ◌∙◌}
use Rattle.std.proofs.lemmas.List.{reverse-reverse}
use Rattle.plain_store.specs.{Setup, checked}
use Rattle.model.specs.{AreGiven, Entry, Event, KeepsMainTheoremThroughout, Past, entry_of, past_of}
use Rattle.model.proofs.Width.{is_good}
use Rattle.safe_monitor.proofs.laws.HeldThere.{access_there}
use Rattle.world.proofs.WorldShows.{past-after}
use Rattle.auditor.specs.{AllKeep, AuditorState, GoodAccessesAreThere, GoodIsOfEvents, HasObserved, IsGoodOfEvents, IsOfEvent, IsTrueRecord, IsVerdict, OfEventsIsGood, Law, Verdict}
use Rattle.world.proofs.history_laws_proofs.Given.{given_before}
use Rattle.world.proofs.history_laws_proofs.MainTheorems.{throughout}
use Rattle.auditor.proofs.Obeys.{obeys}
use Rattle.auditor.proofs.Recovers.{recovers}
use Rattle.auditor.proofs.Unique.{good_only}

pub of_events : (s : Setup) → (past : Past) → AllKeep s past → (events : List Event) × (past_of s events ≡ past)
of_events s [] kept = ([], refl)
of_events s (e ∷ past) kept =
    let before : (events : List Event) × (past_of s events ≡ past) = of_events s past kept.1 in
    let here : IsOfEvent s past e = recovers s past e kept.0 in
    (here.0 ∷ before.0, past-after s before.0 here.0 e (ap (λ l. entry_of s l here.0) before.1 ∙ here.1) ∙ ap (λ l. e ∷ l) before.1)

-- A record of which an auditor has observed all entries is that of the events that its core shows.
pub true_record : (a : AuditorState) (s : Setup) (entries : List Entry) → a.core.setup ≡ s → HasObserved a (reverse entries) → IsTrueRecord s entries
true_record a s entries same observed = subst (λ s. IsTrueRecord s entries) same (record {
  events = reverse observed.events;
  record_is = ap (λ l. reverse (past_of a.core.setup l)) twice ∙ ap reverse observed.past_is ∙ reverse-reverse entries;
  given = subst (AreGiven a.core.setup) (sym twice) observed.shows.given;
  main_theorem = subst (KeepsMainTheoremThroughout a.core.setup) observed.past_is (throughout a.core.setup observed.shows.good observed.events observed.shows.given);
})
  where
    twice : reverse (reverse observed.events) ≡ observed.events
    twice = reverse-reverse observed.events

pub is_good_of : GoodIsOfEvents
is_good_of s good past kept = of_events s past kept

pub good_of : OfEventsIsGood
good_of s good [] given = tt
good_of s good (what ∷ events) given = go (entry_of s (past_of s events) what) refl (good_of s good events (given_before s what events given))
  where
    go : (o : Option Entry) → entry_of s (past_of s events) what ≡ o → AllKeep s (past_of s events) → AllKeep s (past_of s (what ∷ events))
    go None k before = subst (AllKeep s) (sym (ap (λ o. elim o as (λ _. Past) [ None ↦ past_of s events | Some e ↦ e ∷ past_of s events ]) k)) before
    go (Some e) k before = subst (AllKeep s) (sym (past-after s events what e k)) (obeys s good events what e given k, before)

-- The verdict on the record of events that are in range is `Good`.
pub good_of_events : (s : Setup) → checked s ≡ Ok tt → (entries : List Entry) (v : Verdict Law) → IsVerdict s entries v → IsGoodOfEvents s entries v
good_of_events s good entries v is events same given =
    good_only s entries v (subst (AllKeep s) (sym (reverse-reverse (past_of s (reverse events))) ∙ ap reverse same) (good_of s good (reverse events) given)) is

pub there_of : GoodAccessesAreThere
there_of s good [] kept = tt
there_of s good (e ∷ past) kept =
    let before : (events : List Event) × (past_of s events ≡ past) = of_events s past kept.1 in
    let here : IsOfEvent s past e = recovers s past e kept.0 in
    (λ a access. access_there s (is_good s good) before.0 here.0 e (ap (λ l. entry_of s l here.0) before.1 ∙ here.1) a access, there_of s good past kept.1)
