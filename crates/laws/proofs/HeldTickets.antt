-- The ticket that a process holds while it waits, or is inside, is the one in its marks.
use Rattle.std.proofs.Common.{◌≡◌, ◌≢◌, ℕ, suc, Bool, true, false, cond, List, [], ◌∷◌, Some, None, length, refl, sym, ap, subst, ◌∙◌, true≢false, eq-eqb, ne_eqb}
use Rattle.std.specs.Prelude.{fold}
use Rattle.std.specs.List.{list_any}
use Rattle.model.specs.{Access, Call, Closing, Entry, Event, Mark, Past, Place, entry_of, history, inside, inside_after, is_entered, is_fresh, is_last, is_waiting, marks_of, past_of, place_after, value_of}
use Rattle.plain_store.specs.{Command, Setup}
use Rattle.model.specs.declared.marks.Mark.TheVariants.{Waiting, Entered, Left}
use Rattle.model.proofs.Width.{IsGood}
use Rattle.laws.specs.{Closes, call, doing, is_inside, runs, ticket_after, ticket_reported}
use Rattle.laws.proofs.AtPlaces.{AtPlace, IsOfLock, Stepping, any-closing, any-placed, own-induction, place-induction}
use Rattle.laws.proofs.DoorwayParts.{of_waiting}
use Rattle.laws.proofs.Frame.{Happens, a_call, a_withdrawal, a_failure, a_restart, a_step, a_closing, notes-goes, notes-other}
use Rattle.laws.proofs.FrameEvents.{accepted}
use Rattle.laws.proofs.FrameInside.{inside-is, inside-runs}
use Rattle.laws.proofs.Notes.{Notes, notes, notes_after, ticket_by}
use Rattle.laws.proofs.Theorems.{of_entered}
use Rattle.laws.proofs.PartTickets.{TicketAt, inside-reported, place-on, placed-reports}

-- Looking back.

pub reported-other : (q : ℕ) (e : Entry) (past : Past) → e.process ≢ q → ticket_reported q (e ∷ past) ≡ ticket_reported q past
reported-other q e past h = ap (λ b. cond b (fold ticket_after (ticket_reported q past) e.marks) (ticket_reported q past)) (ne_eqb e.process q h)

reported-own : (e : Entry) (past : Past) → ticket_reported e.process (e ∷ past) ≡ fold ticket_after (ticket_reported e.process past) e.marks
reported-own e past = ap (λ b. cond b (fold ticket_after (ticket_reported e.process past) e.marks) (ticket_reported e.process past)) (eq-eqb e.process e.process refl)

inside-other : (q : ℕ) (e : Entry) (past : Past) → e.process ≢ q → inside q (e ∷ past) ≡ inside q past
inside-other q e past h = ap (λ b. cond b (fold inside_after (inside q past) e.marks) (inside q past)) (ne_eqb e.process q h)

inside-own : (e : Entry) (past : Past) → inside e.process (e ∷ past) ≡ fold inside_after (inside e.process past) e.marks
inside-own e past = ap (λ b. cond b (fold inside_after (inside e.process past) e.marks) (inside e.process past)) (eq-eqb e.process e.process refl)

-- the past after an event that adds an entry
pub after_event : (s : Setup) (events : List Event) (event : Event) (e : Entry) → entry_of s (past_of s events) event ≡ Some e → (P : Past → Type 0) → P (past_of s (event ∷ events)) → P (e ∷ past_of s events)
after_event s events event e is P h = subst (λ o. P (elim o as (λ _. Past) [ None ↦ past_of s events | Some x ↦ x ∷ past_of s events ])) is h

-- At places.

-- the ticket of a process at a place of its call
abbrev pub TicketIs : Setup → Past → ℕ → Command → ℕ → Place → Type 0
TicketIs s past p command number at = TicketAt at.part (notes s p past).ticket (ticket_reported p past)

others-keep : (s : Setup) (past : Past) (e : Entry) (p : ℕ) (command : Command) (number : ℕ) (at : Place) → e.process ≢ p → TicketIs s past p command number at → TicketIs s (e ∷ past) p command number at
others-keep s past e p command number at apart h =
    subst (λ (n : Notes). TicketAt at.part n.ticket (ticket_reported p (e ∷ past))) (sym (notes-other s p e past apart))
    (subst (TicketAt at.part (notes s p past).ticket) (sym (reported-other p e past apart)) h)

step-keeps : (s : Setup) (past : Past) (e : Entry) (command : Command) (number : ℕ) (at : Place) (st : Stepping s past e.process e command number at) → TicketIs s past e.process command number at →
    TicketIs s (e ∷ past) e.process command number (place_after (call s e.process command number) at (value_of st.access.how))
step-keeps s past e command number at st h =
    subst (λ t. TicketAt (place_after c at v).part t (ticket_reported p (e ∷ past))) (sym held)
    (subst (TicketAt (place_after c at v).part (ticket_by at.part (is_last c at.part at.run) (notes s p past).ticket)) (sym reported) (place-on c at v (notes s p past).ticket (ticket_reported p past) h))
  where
    p : ℕ
    p = e.process

    c : Call
    c = call s p command number

    v : Bool
    v = value_of st.access.how

    held : (notes s p (e ∷ past)).ticket ≡ ticket_by at.part (is_last c at.part at.run) (notes s p past).ticket
    held = ap (λ (n : Notes). n.ticket) (notes-goes s p e past refl ∙ ap (λ a. notes_after s p (suc (length past)) a (doing s p past) (notes s p past)) st.is
        ∙ ap (λ d. notes_after s p (suc (length past)) (Some st.access) d (notes s p past)) st.does)

    reported : ticket_reported p (e ∷ past) ≡ fold ticket_after (ticket_reported p past) (marks_of c at v)
    reported = reported-own e past ∙ ap (fold ticket_after (ticket_reported p past)) st.marks ∙ placed-reports (length (history s past)) (ticket_reported p past) (marks_of c at v)

-- in every record, at each place of a call
pub tickets : (s : Setup) → IsGood s → (events : List Event) (p : ℕ) → AtPlace (TicketIs s (past_of s events) p) (doing s p (past_of s events))
tickets s g = place-induction s g (TicketIs s) (others-keep s) (λ past e command number a m. tt) (λ past e command number at st h o. step-keeps s past e command number at st h)

-- Inside.

-- the ticket of a process that is inside
abbrev InsideReported : Setup → Past → ℕ → Type 0
InsideReported s past p = inside p past ≡ true → ticket_reported p past ≡ (notes s p past).ticket

-- marks without a ticket, and with which no process enters
no-ticket : (was : ℕ) (ms : List Mark) → list_any is_waiting ms ≡ false → fold ticket_after was ms ≡ was
no-ticket was [] h = refl
no-ticket was (Waiting t ∷ ms) h = absurd (true≢false h)
no-ticket was (m ∷ ms) h = no-ticket (ticket_after was m) ms h

not-entered : (is : Bool) (ms : List Mark) → list_any is_entered ms ≡ false → fold inside_after is ms ≡ true → is ≡ true
not-entered is [] h at = at
not-entered is (Entered ∷ ms) h at = absurd (true≢false h)
not-entered is (Left ∷ ms) h at = absurd (true≢false (sym (not-entered false ms h at)))
not-entered is (m ∷ ms) h at = not-entered is ms h at

-- an entry with such marks, which leaves the ticket that is held
quiet-keeps : (s : Setup) (past : Past) (e : Entry) → list_any is_waiting e.marks ≡ false → list_any is_entered e.marks ≡ false → (notes s e.process (e ∷ past)).ticket ≡ (notes s e.process past).ticket →
    InsideReported s past e.process → InsideReported s (e ∷ past) e.process
quiet-keeps s past e no_wait no_enter held h at =
    reported-own e past ∙ no-ticket (ticket_reported e.process past) e.marks no_wait ∙ h (not-entered (inside e.process past) e.marks no_enter (sym (inside-own e past) ∙ at)) ∙ sym held

-- one that makes no access does
idle-holds : (s : Setup) (past : Past) (e : Entry) → e.access ≡ None → (notes s e.process (e ∷ past)).ticket ≡ (notes s e.process past).ticket
idle-holds s past e none =
    ap (λ (n : Notes). n.ticket) (notes-goes s e.process e past refl ∙ ap (λ a. notes_after s e.process (suc (length past)) a (doing s e.process past) (notes s e.process past)) none)

-- an entry of a closing
closing-holds : (s : Setup) (past : Past) (e : Entry) (a : Access) (command : Command) (number : ℕ) (at : Closing) → e.access ≡ Some a → doing s e.process past ≡ Closes command number at →
    (notes s e.process (e ∷ past)).ticket ≡ (notes s e.process past).ticket
closing-holds s past e a command number at is does =
    ap (λ (n : Notes). n.ticket) (notes-goes s e.process e past refl ∙ ap (λ a. notes_after s e.process (suc (length past)) a (doing s e.process past) (notes s e.process past)) is
    ∙ ap (λ d. notes_after s e.process (suc (length past)) (Some a) d (notes s e.process past)) does)

-- a step, by the place that it leads to
step-inside : (s : Setup) (past : Past) (e : Entry) (command : Command) (number : ℕ) (at : Place) (st : Stepping s past e.process e command number at) → AtPlace (TicketIs s past e.process) (doing s e.process past) →
    doing s e.process (e ∷ past) ≡ runs command number (place_after (call s e.process command number) at (value_of st.access.how)) → is_inside (doing s e.process (e ∷ past)) ≡ true →
    ticket_reported e.process (e ∷ past) ≡ (notes s e.process (e ∷ past)).ticket
step-inside s past e command number at st h then is =
    let to : Place = place_after (call s e.process command number) at (value_of st.access.how) in
    inside-reported to.part (is_fresh to.run) (notes s e.process (e ∷ past)).ticket (ticket_reported e.process (e ∷ past))
    (step-keeps s past e command number at st (subst (AtPlace (TicketIs s past e.process)) st.does h))
    (sym (inside-runs command number to) ∙ ap is_inside (sym then) ∙ is)

own-keeps : (s : Setup) (past : Past) (e : Entry) → Happens s past e.process e (doing s e.process past) (doing s e.process (e ∷ past)) → AtPlace (TicketIs s past e.process) (doing s e.process past) →
    inside e.process (e ∷ past) ≡ is_inside (doing s e.process (e ∷ past)) → InsideReported s past e.process → InsideReported s (e ∷ past) e.process
own-keeps s past e (a_call command number i a m k) place within h = quiet-keeps s past e (ap (list_any is_waiting) m) (ap (list_any is_entered) m) (idle-holds s past e a) h
own-keeps s past e (a_withdrawal command number t w ws run i a m k) place within h = quiet-keeps s past e (ap (list_any is_waiting) m) (ap (list_any is_entered) m) (idle-holds s past e a) h
own-keeps s past e (a_failure command number i a m k) place within h = quiet-keeps s past e (ap (list_any is_waiting) m) (ap (list_any is_entered) m) (idle-holds s past e a) h
own-keeps s past e (a_restart i a m k) place within h = quiet-keeps s past e (ap (list_any is_waiting) m) (ap (list_any is_entered) m) (idle-holds s past e a) h
own-keeps s past e (a_closing command number at flick n i next is v m k) place within h = quiet-keeps s past e (silent is_waiting of_waiting) (silent is_entered of_entered) (closing-holds s past e n.access command number at is i) h
  where
    silent : (test : Mark → Bool) → IsOfLock test → list_any test e.marks ≡ false
    silent test of = ap (list_any test) m ∙ any-placed test of (length (history s past)) n.marks ∙ any-closing test of (call s e.process command number) at flick n next
own-keeps s past e (a_step command number at a flick i o is made m k) place within h = λ at_last.
    step-inside s past e command number at (record { access = a; flick = flick; does = i; not_over = o; is = is; made = made; marks = m }) place k (sym within ∙ at_last)

-- in every record
pub insiders : (s : Setup) → IsGood s → (events : List Event) (p : ℕ) → inside p (past_of s events) ≡ true → ticket_reported p (past_of s events) ≡ (notes s p (past_of s events)).ticket
insiders s g = own-induction s (InsideReported s) (λ p h. absurd (true≢false (sym h))) others mine
  where
    others : (past : Past) (e : Entry) (p : ℕ) → e.process ≢ p → InsideReported s past p → InsideReported s (e ∷ past) p
    others past e p apart h at = reported-other p e past apart ∙ h (sym (inside-other p e past apart) ∙ at) ∙ ap (λ (n : Notes). n.ticket) (sym (notes-other s p e past apart))

    mine : (events : List Event) (event : Event) (e : Entry) → entry_of s (past_of s events) event ≡ Some e → InsideReported s (past_of s events) e.process → InsideReported s (e ∷ past_of s events) e.process
    mine events event e is h =
        let past : Past = past_of s events in
        own-keeps s past e (accepted s g events event e is).happens (tickets s g events e.process)
        (after_event s events event e is (λ then. inside e.process then ≡ is_inside (doing s e.process then)) (inside-is s g (event ∷ events) e.process)) h
