-- The end of a doorway that is not cut: a ticket or `TicketsFull`, depending on the tickets that were read.
use Rattle.std.proofs.Common.{◌≡◌, ◌↔◌, ℕ, zero, suc, ◌==◌, ◌||◌, Bool, true, false, cond, List, [], ◌∷◌, ◌++◌, Some, None, length, map, refl, sym, ap, subst, ◌∙◌, true≢false, arith, eqb-true, eq-eqb, Contains}
use Rattle.std.specs.List.{list_any}
use Rattle.plain_store.specs.{Answer, Setup, changes}
use Rattle.plain_store.specs.declared.Answer.TheVariants as answer
use Rattle.model.specs.{Call, Entry, Event, Mark, Numbers, Past, Wait, bits_with, entered_if_none, entry_of, has, history, is_fresh, is_last, is_waiting, lets_by, others, past_of, placed, reply, store_read, tickets_read, value_of, waits_of}
use Rattle.model.specs.declared.marks.Mark.TheVariants.{Waiting, Taken, Answered}
use Rattle.model.specs.Parts.{Part, Lowers, Refuses, Waits, AsksImage, Clears, first_marks, last_marks}
use Rattle.model.proofs.Width.{IsGood}
use Rattle.laws.specs.{call, doing, ends_doorway}
use Rattle.laws.proofs.Frame.{Happens, a_call, a_withdrawal, a_failure, a_restart, a_step, a_closing}
use Rattle.laws.proofs.FrameEvents.{accepted}
use Rattle.laws.proofs.AtPlaces.{AtPlace, Stepping, IsOfLock, any-placed, any-stepping, any-closing}
use Rattle.laws.proofs.DoorwayParts.{both}
use Rattle.laws.proofs.FullAnswers.{AllAsked, KnowsAt, KnowsTickets, full_in, is_full, knows, read_in_call}

-- an entry ends the doorway in which these numbers were read
pub data EndsWith (s : Setup) (p : ℕ) (values : Numbers) (e : Entry) : Type 0 where
  with_ticket : (t : ℕ) (ws : List Wait) → e.marks ≡ Waiting t ∷ entered_if_none ws → AllAsked s p None values → EndsWith s p values e
  with_full : (f : ℕ) → e.marks ≡ Answered (answer.TicketsFull f) ∷ [] → AllAsked s p (Some f) values → EndsWith s p values e

abbrev pub of_ends : IsOfLock ends_doorway
of_ends = record { taken = λ k r. refl; remaining = refl; settled = λ v. refl; down = refl; withdrawn = refl }

entered-ends : (ws : List Wait) → list_any ends_doorway (entered_if_none ws) ≡ false
entered-ends [] = refl
entered-ends (w ∷ ws) = refl

placed-entered : (k : ℕ) (ws : List Wait) → map (placed k) (entered_if_none ws) ≡ entered_if_none ws
placed-entered k [] = refl
placed-entered k (w ∷ ws) = refl

no_full : (a : Answer) → is_full a ≡ false → list_any ends_doorway (Answered a ∷ []) ≡ false
no_full (answer.TicketsFull j) h = absurd (true≢false h)
no_full _ h = refl

-- nothing marks the first access
unmarked : (b : Bool) (ms : List Mark) → (cond {A = List Mark} b [] [] ++ ms) ≡ ms
unmarked true ms = refl
unmarked false ms = refl

-- by the part that a step ends
part-ends : (s : Setup) (p : ℕ) (c : Call) (part : Part) (bits : List Bool) (values : Numbers) (e : Entry) (k : ℕ) (fresh : Bool) → list_any ends_doorway (last_marks c part bits) ≡ true → KnowsTickets s p part values →
    e.marks ≡ map (placed k) (cond fresh (first_marks part) [] ++ last_marks c part bits) → EndsWith s p values e
part-ends s p c (Lowers t) bits values e k fresh h x m = with_ticket t (waits_of c)
    (m ∙ ap (map (placed k)) (unmarked fresh (Waiting t ∷ entered_if_none (waits_of c))) ∙ ap (λ l. Waiting t ∷ l) (placed-entered k (waits_of c))) x
part-ends s p c (Refuses f) bits values e k fresh h x m = with_full f (m ∙ ap (map (placed k)) (unmarked fresh (Answered (answer.TicketsFull f) ∷ []))) x
part-ends s p c (Clears a) bits values e k fresh h x m = absurd (true≢false (sym h ∙ no_full a x))
part-ends s p c (Waits t w ws) bits values e k fresh h x m = absurd (true≢false (sym h ∙ go (lets_by c t w bits)))
  where
    go : (b : Bool) → list_any ends_doorway (cond b (entered_if_none ws) []) ≡ false
    go true = entered-ends ws
    go false = refl
part-ends s p c (AsksImage vs) bits values e k fresh h x m = absurd (true≢false (sym h ∙ go (changes (store_read c bits) c.command)))
  where
    go : (b : Bool) → list_any ends_doorway (cond b [] (Taken 0 (reply c (store_read c bits)) ∷ [])) ≡ false
    go true = refl
    go false = refl
part-ends s p c _ bits values e k fresh h x m = absurd (true≢false (sym h))

happens-ends : (s : Setup) (past : Past) (p : ℕ) (e : Entry) → Happens s past p e (doing s p past) (doing s p (e ∷ past)) → AtPlace (KnowsAt s past p) (doing s p past) → has ends_doorway e ≡ true →
    EndsWith s p (read_in_call s p past).finished e
happens-ends s past p e (a_call command number i a m k) x h = absurd (true≢false (sym h ∙ ap (list_any ends_doorway) m))
happens-ends s past p e (a_withdrawal command number t w ws run i a m k) x h = absurd (true≢false (sym h ∙ ap (list_any ends_doorway) m))
happens-ends s past p e (a_failure command number i a m k) x h = absurd (true≢false (sym h ∙ ap (list_any ends_doorway) m))
happens-ends s past p e (a_restart i a m k) x h = absurd (true≢false (sym h ∙ ap (list_any ends_doorway) m))
happens-ends s past p e (a_closing command number at flick n i next is v m k) x h =
    absurd (true≢false (sym h ∙ ap (list_any ends_doorway) m ∙ any-placed ends_doorway of_ends (length (history s past)) n.marks ∙ any-closing ends_doorway of_ends (call s p command number) at flick n next))
happens-ends s past p e (a_step command number at a flick i o is made m k) x h =
    let c : Call = call s p command number in
    let bits : List Bool = bits_with at.run (value_of a.how) in
    let stepping : Stepping s past p e command number at = record { access = a; flick = flick; does = i; not_over = o; is = is; made = made; marks = m } in
    let tests = both (is_last c at.part at.run) (list_any ends_doorway (last_marks c at.part bits)) (sym (any-stepping ends_doorway of_ends s past p e command number at stepping) ∙ h) in
    let knows_it : KnowsAt s past p command number at = subst (AtPlace (KnowsAt s past p)) i x in
    part-ends s p c at.part bits (read_in_call s p past).finished e (length (history s past)) (is_fresh at.run) tests.1 knows_it.knows
    (m ∙ ap (λ b. map (placed (length (history s past))) (cond (is_fresh at.run) (first_marks at.part) [] ++ cond b (last_marks c at.part bits) [])) tests.0)

-- an entry of a record ends its doorway
pub ends : (s : Setup) → IsGood s → (events : List Event) (event : Event) (e : Entry) → entry_of s (past_of s events) event ≡ Some e → has ends_doorway e ≡ true →
    EndsWith s e.process (read_in_call s e.process (past_of s events)).finished e
ends s g events event e is h = happens-ends s (past_of s events) e.process e (accepted s g events event e is).happens (knows s g events e.process) h

-- Marks that end a doorway.

-- `TicketsFull` with this process
abbrev pub reports_full : ℕ → Mark → Bool
reports_full j (Answered (answer.TicketsFull f)) = f == j
reports_full j _ = false

right : (b : Bool) → (b || true) ≡ true
right true = refl
right false = refl

more : (p q : Mark → Bool) (ms : List Mark) → ((m : Mark) → p m ≡ true → q m ≡ true) → list_any p ms ≡ true → list_any q ms ≡ true
more p q [] all h = h
more p q (m ∷ ms) all h = go (p m) refl h (more p q ms all)
  where
    go : (b : Bool) → p m ≡ b → (b || list_any p ms) ≡ true → (list_any p ms ≡ true → list_any q ms ≡ true) → (q m || list_any q ms) ≡ true
    go true e k rest = ap (λ b. b || list_any q ms) (all m e)
    go false e k rest = ap (λ b. q m || b) (rest k) ∙ right (q m)

contained : (p : Mark → Bool) (ms : List Mark) (m : Mark) → Contains ms m → p m ≡ true → list_any p ms ≡ true
contained p [] m (k, l, e) h = absurd (omega (arith, l))
contained p (x ∷ ms) m (zero, l, e) h = ap (λ b. b || list_any p ms) (ap p e ∙ h)
contained p (x ∷ ms) m (suc k, l, e) h = ap (λ b. p x || b) (contained p ms m (k, omega (arith, l), e) h) ∙ right (p x)

ticket-ends : (m : Mark) → is_waiting m ≡ true → ends_doorway m ≡ true
ticket-ends (Waiting t) h = refl
ticket-ends _ h = absurd (true≢false (sym h))

full-ends : (j : ℕ) (m : Mark) → reports_full j m ≡ true → ends_doorway m ≡ true
full-ends j (Answered (answer.TicketsFull f)) h = refl
full-ends j _ h = absurd (true≢false (sym h))

entered-full : (j : ℕ) (ws : List Wait) → list_any (reports_full j) (entered_if_none ws) ≡ false
entered-full j [] = refl
entered-full j (w ∷ ws) = refl

-- The laws.

pub all_read : (s : Setup) → IsGood s → (events : List Event) (event : Event) (e : Entry) → entry_of s (past_of s events) event ≡ Some e → has ends_doorway e ≡ true →
    length (tickets_read s e.process (past_of s events)) ≡ length (others s e.process)
all_read s g events event e is h = go (ends s g events event e is h)
  where
    go : EndsWith s e.process (read_in_call s e.process (past_of s events)).finished e → length (tickets_read s e.process (past_of s events)) ≡ length (others s e.process)
    go (with_ticket t ws m x) = x.0
    go (with_full f m x) = x.0

pub waiters_read_none : (s : Setup) → IsGood s → (events : List Event) (event : Event) (e : Entry) → entry_of s (past_of s events) event ≡ Some e → has is_waiting e ≡ true →
    full_in s e.process (read_in_call s e.process (past_of s events)).finished ≡ None
waiters_read_none s g events event e is h = go (ends s g events event e is (more is_waiting ends_doorway e.marks ticket-ends h))
  where
    go : EndsWith s e.process (read_in_call s e.process (past_of s events)).finished e → full_in s e.process (read_in_call s e.process (past_of s events)).finished ≡ None
    go (with_ticket t ws m x) = x.1
    go (with_full f m x) = absurd (true≢false (sym h ∙ ap (list_any is_waiting) m))

pub full_names_the_lowest : (s : Setup) → IsGood s → (events : List Event) (event : Event) (e : Entry) → entry_of s (past_of s events) event ≡ Some e → (j : ℕ) → Contains e.marks (Answered (answer.TicketsFull j)) →
    full_in s e.process (read_in_call s e.process (past_of s events)).finished ≡ Some j
full_names_the_lowest s g events event e is j at = go (ends s g events event e is (more (reports_full j) ends_doorway e.marks (full-ends j) reported))
  where
    reported : list_any (reports_full j) e.marks ≡ true
    reported = contained (reports_full j) e.marks (Answered (answer.TicketsFull j)) at (eq-eqb j j refl)

    only : (b : Bool) → (b || false) ≡ true → b ≡ true
    only true h = refl
    only false h = h

    go : EndsWith s e.process (read_in_call s e.process (past_of s events)).finished e → full_in s e.process (read_in_call s e.process (past_of s events)).finished ≡ Some j
    go (with_ticket t ws m x) = absurd (true≢false (sym reported ∙ ap (list_any (reports_full j)) m ∙ entered-full j ws))
    go (with_full f m x) = x.1 ∙ ap Some (eqb-true f j (only (f == j) (sym (ap (list_any (reports_full j)) m) ∙ reported)))

pub full_exactly : (s : Setup) → IsGood s → (events : List Event) (event : Event) (e : Entry) → entry_of s (past_of s events) event ≡ Some e → has ends_doorway e ≡ true → (j : ℕ) →
    Contains e.marks (Answered (answer.TicketsFull j)) ↔ (full_in s e.process (read_in_call s e.process (past_of s events)).finished ≡ Some j)
full_exactly s g events event e is h j = (full_names_the_lowest s g events event e is j, λ low. go low (ends s g events event e is h))
  where
    go : full_in s e.process (read_in_call s e.process (past_of s events)).finished ≡ Some j → EndsWith s e.process (read_in_call s e.process (past_of s events)).finished e →
        Contains e.marks (Answered (answer.TicketsFull j))
    go low (with_ticket t ws m x) = let f : None ≡ Some j = sym x.1 ∙ low in cc
    go low (with_full f m x) =
        let k : Some f ≡ Some j = sym x.1 ∙ low in
        let same : f ≡ j = cc in
        subst (λ l. Contains l (Answered (answer.TicketsFull j))) (sym (m ∙ ap (λ i. Answered (answer.TicketsFull i) ∷ []) same)) (0, omega arith, refl)
