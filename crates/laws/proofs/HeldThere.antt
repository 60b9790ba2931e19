-- Every access of a record is of a register that exists.
use Rattle.std.proofs.Common.{◌≡◌, ◌≢◌, ℕ, ◌+◌, ◌/◌, ◌*◌, ◌<◌, ◌==◌, ◌||◌, Bool, true, false, cond, List, [], ◌∷◌, Option, Some, None, length, refl, sym, ap, subst, ◌∙◌, arith}
use Rattle.std.proofs.lemmas.Bool.{eqb-false}
use Rattle.model.specs.reader_copies.Runs as copies
use Rattle.model.specs.safe_bit.{is_of_write}
use Rattle.model.specs.{Access, Call, Entry, Event, Next, Part, Past, Place, Reading, Run, Writing, access_at, bit_written, entry_of, is_finished, is_over, last_write, own, past_of, place_after, unfinished, value_of, width, write_moved, written_at}
use Rattle.model.specs.safe_number.{new_write}
use Rattle.plain_store.specs.{Command, Setup}
use Rattle.model.specs.Closings.{Closing, Withdraws, Settles, Frees, Lowers, Quit, Ended, closing_after, closing_next, freeing, is_last_settled, is_last_written, no_ticket, settling_from}
use Rattle.model.proofs.Closing.{ticket_width}
use Rattle.model.proofs.PlaceTurns.{access_in}
use Rattle.model.proofs.Ties.{written-width}
use Rattle.model.proofs.Width.{IsGood}
use Rattle.model.proofs.Opens.{last-none}
use Rattle.laws.specs.{Closes, Doing, IsThere, Lies, Rests, Runs, call, closes, doing, runs}
use Rattle.laws.proofs.Always.{inv_of}
use Rattle.laws.proofs.AtPlaces.{AtPlace, own-induction}
use Rattle.laws.proofs.Frame.{Happens, a_call, a_withdrawal, a_failure, a_restart, a_step, a_closing, doing-other, own-other, own-own}
use Rattle.laws.proofs.FrameCuts.{LeftClosing, LeftIn, last-made, remaining}
use Rattle.laws.proofs.FrameEvents.{Accepted, accepted}
use Rattle.laws.proofs.FrameSteps.{remaining-is}
use Rattle.laws.proofs.HeldOwners.{OwnersAt, OwnersThere, owner-there, owners_there}
use Rattle.laws.proofs.Invariant.{Corresponds, RunCorresponds, Wires, wires}
use Rattle.laws.proofs.Notes.{Notes, notes}

-- At a place.

place-there : (s : Setup) (p : ℕ) (command : Command) (number : ℕ) (part : Part) (run : Run) (m : Wires) → p < s.processes → is_over part ≡ false → OwnersThere s.processes part →
    RunCorresponds (call s p command number) m part run → IsThere s (access_at (call s p command number) part run)
place-there s p command number part (Writing w) m below o owners st =
    let c : Call = call s p command number in
    let made : (bit_written (written_at c part).1 w).made < 2 * s.processes = st.1.made in
    let inside : w.bit < w.width = st.1.below in
    let all : w.width ≡ length (written_at c part).1 = st.1.width_is in
    let wide : width s (written_at c part).0 ≡ length (written_at c part).1 = written-width c part st.0 o in
    record { owner = below; reader = omega (arith, made); bit = omega (arith, inside, all, wide) }
place-there s p command number part (Reading bits begun) m below o owners st =
    record { owner = owner-there (call s p command number) s.processes part st.0 owners; reader = below; bit = st.1 }

-- In a closing.

-- the bit that is settled exists, and a copy of it remains
abbrev SettlesThere : Setup → Closing → Type 0
SettlesThere s (Settles f bit begun taken is t) = (bit < width s f) × (t.reader < s.processes)
SettlesThere s _ = Unit {0}

abbrev ClosesThere : Setup → Doing → Type 0
ClosesThere s Rests = Unit {0}
ClosesThere s Lies = Unit {0}
ClosesThere s (Runs command number at) = Unit {0}
ClosesThere s (Closes command number at) = SettlesThere s at

-- an access of a write that continues
written-there : (n bit made wide size w : ℕ) → made < 2 * n → bit < w → w ≡ size → wide ≡ size → (made / 2 < n) × (bit < wide)
written-there n bit made wide size w a b c d = (omega (arith, a), omega (arith, b, c, d))

closing-there : (s : Setup) (p : ℕ) (command : Command) (number : ℕ) (at : Closing) (flick : Bool) (n : Next) (torn : Option Access) → p < s.processes →
    closing_next (call s p command number) at flick ≡ Some n → SettlesThere s at → LeftClosing (call s p command number) torn at → IsThere s n.access
closing-there s p command number at flick n torn below next settles l = subst (IsThere s) (ap access_in next) (go at next settles l)
  where
    c : Call
    c = call s p command number

    go : (at : Closing) → closing_next c at flick ≡ Some n → SettlesThere s at → LeftClosing c torn at → IsThere s (access_in (closing_next c at flick))
    go (Withdraws w) h x l =
        let there = written-there s.processes w.bit (bit_written (no_ticket c) w).made s.ticket_bits (length (no_ticket c)) w.width l.0.goes.going l.0.goes.inside l.0.goes.width (ticket_width c) in
        record { owner = below; reader = there.0; bit = there.1 }
    go (Settles f bit begun taken is t) h x l = record { owner = below; reader = x.1; bit = x.0 }
    go (Frees is w) h x l =
        let there = written-there s.processes w.bit (bit_written (no_ticket c) w).made s.ticket_bits (length (no_ticket c)) w.width l.goes.going l.goes.inside l.goes.width (ticket_width c) in
        record { owner = below; reader = there.0; bit = there.1 }
    go (Lowers w) h x l =
        let there = written-there s.processes w.bit (bit_written (false ∷ []) w).made 1 1 w.width l.goes.going l.goes.inside l.goes.width refl in
        record { owner = below; reader = there.0; bit = there.1 }
    go Quit h x l = cc
    go Ended h x l = cc

-- Each access, by what its process does.
happens-there : (s : Setup) (past : Past) (p : ℕ) (e : Entry) (d d' : Doing) (n : Notes) (m : Wires) (torn : Option Access) → Happens s past p e d d' → p < s.processes →
    AtPlace (OwnersAt s) d → Corresponds s p n m d → LeftIn s p torn d → ClosesThere s d → (a : Access) → e.access ≡ Some a → IsThere s a
happens-there s past p e d d' n m torn (a_call command number was none marks then) below owners st l cl a h = let f : None ≡ Some a = sym none ∙ h in cc
happens-there s past p e d d' n m torn (a_withdrawal command number t w ws run was none marks then) below owners st l cl a h = let f : None ≡ Some a = sym none ∙ h in cc
happens-there s past p e d d' n m torn (a_failure command number may none marks then) below owners st l cl a h = let f : None ≡ Some a = sym none ∙ h in cc
happens-there s past p e d d' n m torn (a_restart was none marks then) below owners st l cl a h = let f : None ≡ Some a = sym none ∙ h in cc
happens-there s past p e d d' n m torn (a_step command number at x flick was over access is marks then) below owners st l cl a h =
    let f : Some x ≡ Some a = sym access ∙ h in
    let same : x ≡ a = cc in
    let c : Call = call s p command number in
    let corresponds : Corresponds s p n m (Runs command number at) = subst (Corresponds s p n m) was st in
    let there : IsThere s (access_at c at.part at.run) = place-there s p command number at.part at.run m below over (subst (AtPlace (OwnersAt s)) was owners) corresponds.0 in
    subst (IsThere s) (sym is ∙ same) (record { owner = there.owner; reader = there.reader; bit = there.bit })
happens-there s past p e d d' n m torn (a_closing command number at flick x was next access made marks then) below owners st l cl a h =
    let f : Some x.access ≡ Some a = sym access ∙ h in
    let same : x.access ≡ a = cc in
    subst (IsThere s) same (closing-there s p command number at flick x torn below next (subst (ClosesThere s) was cl) (subst (LeftIn s p torn) was l))

-- The beginning and the progress of a unit.

-- a unit begins with the bit of the last write, which exists
settles-from : (c : Call) → IsGood c.setup → (mine : Past) (last : Option Access) → ((a : Access) → last ≡ Some a → a.bit < width c.setup a.field) →
    SettlesThere c.setup (settling_from c mine (unfinished c.setup.processes last))
settles-from c g mine None h = tt
settles-from c g mine (Some a) h = go (is_finished c.setup.processes a)
  where
    go : (b : Bool) → SettlesThere c.setup (settling_from c mine (cond b None (Some a)))
    go true = tt
    go false = (h a refl, omega (arith, g.processes_is))

closes-there : (s : Setup) (command : Command) (number : ℕ) (at : Closing) → SettlesThere s at → ClosesThere s (closes command number at)
closes-there s command number (Withdraws w) h = tt
closes-there s command number (Settles f bit begun taken is t) h = h
closes-there s command number _ h = tt

runs-there : (s : Setup) (command : Command) (number : ℕ) (at : Place) → ClosesThere s (runs command number at)
runs-there s command number at = go (is_over at.part)
  where
    go : (b : Bool) → ClosesThere s (cond b Rests (Runs command number at))
    go true = tt
    go false = tt

-- a settling that is not at its last copy moves to another
next-copy : (n : ℕ) (t : copies.Settling) (v : Bool) → t.reader < n → ((copies.settle_after t v).reader == n) ≡ false → (copies.settle_after t v).reader < n
next-copy n t v below = go (t.begun || copies.is_open_at t.made t.reader)
  where
    to : Bool → copies.Settling
    to b = cond b (record { made = t.made; reader = t.reader + 1; begun = false; value = Some v }) (record { made = t.made; reader = t.reader; begun = true; value = Some v })

    go : (b : Bool) → ((to b).reader == n) ≡ false → (to b).reader < n
    go true h = let other : t.reader + 1 ≢ n = eqb-false (t.reader + 1) n h in omega (arith, below, other)
    go false h = below

after-there : (c : Call) (at : Closing) (flick : Bool) → SettlesThere c.setup at → SettlesThere c.setup (closing_after c at flick)
after-there c (Withdraws w) flick h = go (is_last_written c (no_ticket c) w)
  where
    go : (b : Bool) → SettlesThere c.setup (cond b Quit (Withdraws (write_moved c.setup.processes (no_ticket c) w)))
    go true = tt
    go false = tt
after-there c (Settles f bit begun taken is t) flick h = go (is_last_settled c t (copies.settled_at t flick)) refl
  where
    go : (b : Bool) → is_last_settled c t (copies.settled_at t flick) ≡ b → SettlesThere c.setup (cond b (freeing c is) (Settles f bit begun taken is (copies.settle_after t (copies.settled_at t flick))))
    go true last = tt
    go false last = (h.0, next-copy c.setup.processes t (copies.settled_at t flick) h.1 last)
after-there c (Frees is w) flick h = go (is_last_written c (no_ticket c) w)
  where
    go : (b : Bool) → SettlesThere c.setup (cond b (Lowers (new_write 1)) (Frees is (write_moved c.setup.processes (no_ticket c) w)))
    go true = tt
    go false = tt
after-there c (Lowers w) flick h = go (is_last_written c (false ∷ []) w)
  where
    go : (b : Bool) → SettlesThere c.setup (cond b Ended (Lowers (write_moved c.setup.processes (false ∷ []) w)))
    go true = tt
    go false = tt
after-there c Quit flick h = tt
after-there c Ended flick h = tt

-- The bit that a process wrote last exists, and so does the bit that its unit settles.
abbrev LastThere : Setup → Past → Type 0
LastThere s mine = (a : Access) → last_write mine ≡ Some a → a.bit < width s a.field

-- these facts hold after an entry
step-there : (s : Setup) → IsGood s → (past : Past) (p : ℕ) (e : Entry) (d d' : Doing) → Happens s past p e d d' → LastThere s (own p past) → ClosesThere s d → ClosesThere s d'
step-there s g past p e d d' (a_call command number was none marks then) last cl = subst (ClosesThere s) (sym then) tt
step-there s g past p e d d' (a_withdrawal command number t w ws run was none marks then) last cl = subst (ClosesThere s) (sym then) tt
step-there s g past p e d d' (a_failure command number may none marks then) last cl = subst (ClosesThere s) (sym then) (settles-from (call s p command number) g (own p past) (last_write (own p past)) last)
step-there s g past p e d d' (a_restart was none marks then) last cl = subst (ClosesThere s) (sym then) tt
step-there s g past p e d d' (a_step command number at a flick was over access is marks then) last cl =
    subst (ClosesThere s) (sym then) (runs-there s command number (place_after (call s p command number) at (value_of a.how)))
step-there s g past p e d d' (a_closing command number at flick n was next access same marks then) last cl =
    subst (ClosesThere s) (sym then) (closes-there s command number (closing_after (call s p command number) at flick) (after-there (call s p command number) at flick (subst (ClosesThere s) was cl)))

last-there : (s : Setup) (mine : Past) (e : Entry) → ((a : Access) → e.access ≡ Some a → IsThere s a) → LastThere s mine → LastThere s (e ∷ mine)
last-there s mine e made last a h = go e.access refl
  where
    written : (x : Access) → IsThere s x → (b : Bool) → cond b (Some x) (last_write mine) ≡ Some a → a.bit < width s a.field
    written x there true k = let same : x ≡ a = cc in (subst (IsThere s) same there).bit
    written x there false k = last a k

    go : (x : Option Access) → e.access ≡ x → a.bit < width s a.field
    go None none = last a (sym (last-none e mine none) ∙ h)
    go (Some x) is = written x (made x is) (is_of_write x.how) (sym (last-made e mine x is) ∙ h)

-- the access of an entry, if the bit that a unit settles exists
entry-there : (s : Setup) → IsGood s → (events : List Event) (event : Event) (e : Entry) → entry_of s (past_of s events) event ≡ Some e → ClosesThere s (doing s e.process (past_of s events)) →
    (a : Access) → e.access ≡ Some a → IsThere s a
entry-there s g events event e is cl a h =
    let past : Past = past_of s events in
    let acc : Accepted s past event e = accepted s g events event e is in
    happens-there s past e.process e (doing s e.process past) (doing s e.process (e ∷ past)) (notes s e.process past) (wires s past e.process) (remaining s (own e.process past)) acc.happens acc.below
    (owners_there s g events e.process) ((inv_of s g events).own e.process acc.below).corresponds (remaining-is s g events e.process) cl a h

closings_there : (s : Setup) → IsGood s → (events : List Event) (p : ℕ) → LastThere s (own p (past_of s events)) × ClosesThere s (doing s p (past_of s events))
closings_there s g = own-induction s (λ (past : Past) (p : ℕ). LastThere s (own p past) × ClosesThere s (doing s p past)) (λ p. ((λ a h. cc), tt))
    (λ past e p apart h. (subst (LastThere s) (sym (own-other p e past apart)) h.0, subst (ClosesThere s) (sym (doing-other s p e past apart)) h.1))
    (λ events event e is h.
    let past : Past = past_of s events in (
      subst (LastThere s) (sym (own-own e.process e past refl)) (last-there s (own e.process past) e (entry-there s g events event e is h.1) h.0),
      step-there s g past e.process e (doing s e.process past) (doing s e.process (e ∷ past)) (accepted s g events event e is).happens h.0 h.1,
    ))

-- Every access is of a register that exists.
pub access_there : (s : Setup) → IsGood s → (events : List Event) (event : Event) (e : Entry) → entry_of s (past_of s events) event ≡ Some e → (a : Access) → e.access ≡ Some a → IsThere s a
access_there s g events event e is = entry-there s g events event e is (closings_there s g events e.process).1
