-- A process that is inside, or enters, precedes each process that waits.
use Rattle.std.proofs.Common.{◌≡◌, ◌≢◌, ◌⊎◌, ℕ, ◌<◌, ◌==◌, ◌&&◌, ◌||◌, nat_lt, Bool, true, false, List, ◌∷◌, Some, refl, sym, ap, subst, ◌∙◌, true≢false, inl, inr, cond, eq-eqb, ne_eqb, IsTrue}
use Rattle.std.specs.Prelude.{fold}
use Rattle.std.proofs.lemmas.Bool.{lt-ltb}
use Rattle.plain_store.specs.{Setup}
use Rattle.model.specs.{Entry, Event, Past, entry_of, has, inside, is_below, is_entered, is_fresh, is_waiting_stage, past_of, stage, stage_after}
use Rattle.model.specs.declared.stages.Stage.TheVariants.{Waiting}
use Rattle.model.proofs.Width.{IsGood}
use Rattle.laws.specs.{PrecedesInLine, doing, is_inside, is_inside_at, ticket_reported}
use Rattle.laws.proofs.Always.{inv_of}
use Rattle.laws.proofs.AtPlaces.{AtPlace}
use Rattle.laws.proofs.Doings.{stage_of}
use Rattle.laws.proofs.FrameEvents.{accepted}
use Rattle.laws.proofs.FrameInside.{inside-is, stage-is}
use Rattle.laws.proofs.Invariant.{Inv}
use Rattle.laws.proofs.Notes.{notes}
use Rattle.laws.proofs.Theorems.{Enters, WaitsAt, below, enters, insider, is_process, waiter, waiter-holds}
use Rattle.laws.proofs.HeldTickets.{TicketIs, after_event, insiders, tickets}
use Rattle.laws.proofs.PartTickets.{TicketAt}

-- the order of pairs of a ticket and a process, as the lock tests it
below-test : (a j b p : ℕ) → (a < b) ⊎ ((a ≡ b) × (j < p)) → is_below a j b p ≡ true
below-test a j b p (inl lower) = ap (λ x. x || ((a == b) && nat_lt j p)) (lt-ltb a b lower)
below-test a j b p (inr (same, lower)) = go (nat_lt a b)
  where
    go : (x : Bool) → (x || ((a == b) && nat_lt j p)) ≡ true
    go true = refl
    go false = λ i. eq-eqb a b same i && lt-ltb j p lower i

-- the ticket that a waiting process holds is the one in its marks
waiter-reported : (s : Setup) → IsGood s → (events : List Event) (q : ℕ) → WaitsAt (doing s q (past_of s events)) → ticket_reported q (past_of s events) ≡ (notes s q (past_of s events)).ticket
waiter-reported s g events q x =
    let past : Past = past_of s events in
    let at : TicketIs s past q x.command x.number x.at = subst (AtPlace (TicketIs s past q)) x.does (tickets s g events q) in
    subst (λ y. TicketAt y (notes s q past).ticket (ticket_reported q past)) x.part_is at

-- a waiting process is not inside
waiter-outside : (s : Setup) (past : Past) (q : ℕ) → WaitsAt (doing s q past) → is_inside (doing s q past) ≡ false
waiter-outside s past q x = ap is_inside x.does ∙ ap (λ y. is_inside_at y (is_fresh x.at.run)) x.part_is

pub first_inside : (s : Setup) → IsGood s → (events : List Event) (p : ℕ) → IsTrue (inside p (past_of s events)) → (q : ℕ) → stage q (past_of s events) ≡ Waiting → PrecedesInLine (past_of s events) p q
first_inside s g events p within q waits = below-test (ticket_reported p past) p (ticket_reported q past) q
    (subst (λ t. (t < ticket_reported q past) ⊎ ((t ≡ ticket_reported q past) × (p < q))) (sym (insiders s g events p within))
    (subst (λ u. ((notes s p past).ticket < u) ⊎ (((notes s p past).ticket ≡ u) × (p < q))) (sym (waiter-reported s g events q x))
    (below s past p q inv pN qN apart ((inv.own p pN).senior.held here) (waiter-holds s past q inv qN x).0 ((inv.own p pN).senior.passed here q qN (λ same. apart (sym same))))))
  where
    past : Past
    past = past_of s events

    inv : Inv s past
    inv = inv_of s g events

    x : WaitsAt (doing s q past)
    x = waiter s g events q (ap is_waiting_stage waits)

    pN : p < s.processes
    pN = insider s g events p within

    qN : q < s.processes
    qN = is_process s g events q (λ r. true≢false (sym (ap is_waiting_stage (sym (stage-is s g events q) ∙ waits)) ∙ ap (λ d. is_waiting_stage (stage_of d)) r))

    here : is_inside (doing s p past) ≡ true
    here = sym (inside-is s g events p) ∙ within

    apart : p ≢ q
    apart same = true≢false (sym here ∙ ap (λ r. is_inside (doing s r past)) same ∙ waiter-outside s past q x)

pub first_to_enter : (s : Setup) → IsGood s → (events : List Event) (event : Event) (e : Entry) → entry_of s (past_of s events) event ≡ Some e → IsTrue (has is_entered e) →
    (q : ℕ) → q ≢ e.process → stage q (past_of s events) ≡ Waiting → PrecedesInLine (e ∷ past_of s events) e.process q
first_to_enter s g events event e is enters_now q other waits =
    after_event s events event e is (λ then. IsTrue (inside e.process then) → stage q then ≡ Waiting → PrecedesInLine then e.process q) (λ within waits. first_inside s g (event ∷ events) e.process within q waits) within still
  where
    past : Past
    past = past_of s events

    enter : Enters s past e.process e
    enter = enters s past e.process e (accepted s g events event e is).happens enters_now

    within : inside e.process (e ∷ past) ≡ true
    within = after_event s events event e is (λ then. inside e.process then ≡ is_inside (doing s e.process then)) (inside-is s g (event ∷ events) e.process) ∙ enter.inside_then

    still : stage q (e ∷ past) ≡ Waiting
    still = ap (λ b. cond b (fold stage_after (stage q past) e.marks) (stage q past)) (ne_eqb e.process q (λ same. other (sym same))) ∙ waits
