-- The part after a whole number access.
use Rattle.std.proofs.Common.{◌≡◌, ◌≢◌, ℕ, ◌+◌, ◌-◌, ◌^◌, ◌<◌, ◌≤◌, ◌==◌, max, Bool, true, false, List, [], ◌∷◌, ◌++◌, refl, sym, subst, ◌∙◌, arith, append-nil}
use Rattle.std.proofs.lemmas.Bool.{eqb-false, true≢false}
use Rattle.std.proofs.lemmas.Nat.{pow_pos}
use Rattle.std.specs.Prelude.{fold}
use Rattle.std.specs.List.{AllByRecursion}
use Rattle.model.specs.declared.access.Field.TheVariants.{Choosing, Ticket}
use Rattle.plain_store.specs.{Answer, Command, Contents, Setup, changes}
use Rattle.plain_store.specs.declared.Answer.TheVariants as answer
use Rattle.model.specs.{Asks, AsksCommit, AsksImage, Call, Clears, Past, Refuses, TakesTicket, Version, Waits, WritesImage, enter, first_full, greatest, max_of, newest_stamp, others, processes, reply, to_b, to_c, to_d, to_e, to_g}
use Rattle.model.proofs.Width.{IsGood}
use Rattle.laws.specs.{call, runs}
use Rattle.laws.proofs.Notes.{Notes}
use Rattle.laws.proofs.Invariant.{Wires, Touches, Passed, IsInDoorway, Asked, waits, AllPassed, Moves}
use Rattle.laws.proofs.Others.{each_other}
use Rattle.laws.proofs.Ready.{Ready, starts}

-- The greatest ticket.

-- a running greatest number is no smaller than what it began with
greatest_grows : (top : ℕ) (ts : List ℕ) → top ≤ fold max top ts
greatest_grows top [] = omega arith
greatest_grows top (t ∷ ts) = omega (arith, greatest_grows (max top t) ts)

-- each of these was asked since the announcement, and its number is not above the greatest
asked_from_top : (s : Setup) (announced_at : ℕ) (asked_from asked : ℕ → ℕ) (top : ℕ) (js ts : List ℕ) → Asked s announced_at asked_from asked js ts →
    AllByRecursion (λ j. (announced_at ≤ asked_from j) × (asked j ≤ fold max top ts)) js
asked_from_top s announced_at asked_from asked top [] [] h = tt
asked_from_top s announced_at asked_from asked top [] (t ∷ ts) h = absurd h
asked_from_top s announced_at asked_from asked top (j ∷ js) [] h = absurd h
asked_from_top s announced_at asked_from asked top (j ∷ js) (t ∷ ts) h =
    let same : asked j ≡ t = h.1 in
    let grows : max top t ≤ fold max (max top t) ts = greatest_grows (max top t) ts in
    ((h.0, omega arith), asked_from_top s announced_at asked_from asked (max top t) js ts h.3)

pub asked_each : (s : Setup) (announced_at : ℕ) (asked_from asked : ℕ → ℕ) (js ts : List ℕ) → Asked s announced_at asked_from asked js ts → AllByRecursion (λ j. (announced_at ≤ asked_from j) × (asked j ≤ greatest ts)) js
asked_each s announced_at asked_from asked js ts h = asked_from_top s announced_at asked_from asked 0 js ts h

-- the greatest of numbers of n bits has n bits
fits_from_top : (s : Setup) (announced_at : ℕ) (asked_from asked : ℕ → ℕ) (top : ℕ) (js ts : List ℕ) → top < 2 ^ s.ticket_bits → Asked s announced_at asked_from asked js ts → fold max top ts < 2 ^ s.ticket_bits
fits_from_top s announced_at asked_from asked top [] [] low h = low
fits_from_top s announced_at asked_from asked top [] (t ∷ ts) low h = absurd h
fits_from_top s announced_at asked_from asked top (j ∷ js) [] low h = absurd h
fits_from_top s announced_at asked_from asked top (j ∷ js) (t ∷ ts) low h = let small : t < 2 ^ s.ticket_bits = h.2 in fits_from_top s announced_at asked_from asked (max top t) js ts (omega arith) h.3

pub greatest_fits : (s : Setup) (announced_at : ℕ) (asked_from asked : ℕ → ℕ) (js ts : List ℕ) → Asked s announced_at asked_from asked js ts → greatest ts < 2 ^ s.ticket_bits
greatest_fits s announced_at asked_from asked js ts h = fits_from_top s announced_at asked_from asked 0 js ts (pow_pos s.ticket_bits) h

-- Each lemma: from ready to the place that comes next.

-- all tickets are read: a ticket is taken, or refused if the greatest is full
to_c_moves : (s : Setup) → IsGood s → (past : Past) (p : ℕ) (command : Command) (number : ℕ) (n : Notes) (m : Wires) (t : ℕ → ℕ → Touches) → Ready s past p false n m t → IsInDoorway n →
    (ts : List ℕ) → Asked s n.announced_at n.asked_from n.asked (others s p) ts → Moves s past p (runs command number (enter (call s p command number) (to_c (call s p command number) ts))) n m t
to_c_moves s g past p command number n m t r d ts asked = go (greatest ts == max_of s.ticket_bits) refl
  where
    c : Call
    c = call s p command number

    go : (b : Bool) → (greatest ts == max_of s.ticket_bits) ≡ b → Moves s past p (runs command number (enter c (elim b [ true ↦ Refuses (first_full c ts) | false ↦ TakesTicket (greatest ts + 1) ]))) n m t
    go true e = starts s g past p command number (Refuses (first_full c ts)) n m t refl r d.free
    go false e =
        let room : greatest ts ≢ 2 ^ s.ticket_bits - 1 = eqb-false (greatest ts) (max_of s.ticket_bits) e in
        let small : greatest ts < 2 ^ s.ticket_bits = greatest_fits s n.announced_at n.asked_from n.asked (others s p) ts asked in
        starts s g past p command number (TakesTicket (greatest ts + 1)) n m t refl r (d, (ts, asked, refl, omega arith))

-- the tickets of `done` are read, those of js are still to be read
pub to_b_moves : (s : Setup) → IsGood s → (past : Past) (p : ℕ) (command : Command) (number : ℕ) (n : Notes) (m : Wires) (t : ℕ → ℕ → Touches) → Ready s past p false n m t → IsInDoorway n → n.announced_at ≤ n.since →
    (done js ts : List ℕ) → others s p ≡ done ++ js → Asked s n.announced_at n.asked_from n.asked done ts →
    Moves s past p (runs command number (enter (call s p command number) (to_b (call s p command number) js ts))) n m t
to_b_moves s g past p command number n m t r d after done [] ts all asked =
    to_c_moves s g past p command number n m t r d ts (subst (λ js. Asked s n.announced_at n.asked_from n.asked js ts) (sym (all ∙ append-nil done)) asked)
to_b_moves s g past p command number n m t r d after done (j ∷ js) ts all asked =
    starts s g past p command number (Asks j js ts) n m t refl r (record { doorway = d; after = after; done = done; all = all; asked_all = asked })

-- inside: the versions of ks are still to be read
pub to_e_moves : (s : Setup) → IsGood s → (past : Past) (p : ℕ) (command : Command) (number : ℕ) (n : Notes) (m : Wires) (t : ℕ → ℕ → Touches) → Ready s past p true n m t →
    (ks : List ℕ) (versions : List Version) → Moves s past p (runs command number (enter (call s p command number) (to_e ks versions))) n m t
to_e_moves s g past p command number n m t r [] versions = starts s g past p command number (AsksImage versions) n m t refl r tt
to_e_moves s g past p command number n m t r (k ∷ ks) versions = starts s g past p command number (AsksCommit k ks versions) n m t refl r tt

-- inside: the ticket is to be cleared
pub to_h_moves : (s : Setup) → IsGood s → (past : Past) (p : ℕ) (command : Command) (number : ℕ) (n : Notes) (m : Wires) (t : ℕ → ℕ → Touches) → Ready s past p true n m t →
    (a : Answer) → Moves s past p (runs command number (enter (call s p command number) (Clears a))) n m t
to_h_moves s g past p command number n m t r a = starts s g past p command number (Clears a) n m t refl r (λ e. absurd (true≢false e))

-- inside: the newest image is read
pub to_g_moves : (s : Setup) → IsGood s → (past : Past) (p : ℕ) (command : Command) (number : ℕ) (n : Notes) (m : Wires) (t : ℕ → ℕ → Touches) → Ready s past p true n m t →
    (versions : List Version) (store : Contents) → Moves s past p (runs command number (enter (call s p command number) (to_g (call s p command number) versions store))) n m t
to_g_moves s g past p command number n m t r versions store = go (changes store command) (newest_stamp versions == max_of s.stamp_bits)
  where
    c : Call
    c = call s p command number

    go : (b full : Bool) → Moves s past p (runs command number (enter c (elim b [ false ↦ Clears (answer.Reply (reply c store)) | true ↦ elim full [ true ↦ Clears answer.StampsFull | false ↦ WritesImage versions store ] ]))) n m t
    go false full = to_h_moves s g past p command number n m t r (answer.Reply (reply c store))
    go true true = to_h_moves s g past p command number n m t r answer.StampsFull
    go true false = starts s g past p command number (WritesImage versions store) n m t refl r tt

passed_each : (p : ℕ) (n : Notes) (js : List ℕ) → AllPassed p n js → AllByRecursion (λ j. Passed p n.ticket n.held_at n.choosing_from n.choosing_to n.let_from n.let_by j) js
passed_each p n [] h = tt
passed_each p n (j ∷ js) h = (h.0, passed_each p n js h.1)

-- a process that has passed all others enters
gets_inside : (s : Setup) (past : Past) (p : ℕ) (n : Notes) (m : Wires) (t : ℕ → ℕ → Touches) → n.holds ≡ true → AllPassed p n (others s p) → Ready s past p false n m t → Ready s past p true n m t
gets_inside s past p n m t holding all r = record {
  times = r.times;
  whole = r.whole;
  senior = record {
    fits = r.senior.fits;
    positive = r.senior.positive;
    began_before = r.senior.began_before;
    from = r.senior.from;
    above = r.senior.above;
    held = λ e. holding;
    passed = λ e. each_other s p _ (passed_each p n (others s p) all);
  };
  knows = r.knows;
  owner = r.owner;
}

-- the processes of `done` are passed, those of js are still to be waited for
pub to_d_moves : (s : Setup) → IsGood s → (past : Past) (p : ℕ) (command : Command) (number : ℕ) (n : Notes) (m : Wires) (t : ℕ → ℕ → Touches) → Ready s past p false n m t →
    (ticket : ℕ) → n.holds ≡ true → n.ticket ≡ ticket → n.held_at ≤ n.ended → n.held_at ≤ n.since → (done js : List ℕ) → others s p ≡ done ++ js → AllPassed p n done →
    Moves s past p (runs command number (enter (call s p command number) (to_d (call s p command number) ticket (waits js)))) n m t
to_d_moves s g past p command number n m t r ticket holding same ended after done [] all passed =
    to_e_moves s g past p command number n m t (gets_inside s past p n m t holding (subst (AllPassed p n) (sym (all ∙ append-nil done)) passed) r) (processes s) []
to_d_moves s g past p command number n m t r ticket holding same ended after done (j ∷ js) all passed =
    starts s g past p command number (Waits ticket (j, Choosing) ((j, Ticket) ∷ waits js)) n m t refl r
    (record { holding = holding; ticket_is = same; ended_after = ended; done = done; now = j; next = js; all = all; passed = passed; wait = (refl, refl, after) })
