-- The ticket of a call, part by part: the ticket that is held is the one of its place, and then the one in the marks.
use Rattle.std.proofs.Common.{◌≡◌, ℕ, ◌+◌, ◌==◌, Bool, true, false, cond, List, [], ◌∷◌, map, refl, sym, ap, subst, ◌∙◌, true≢false}
use Rattle.std.specs.Prelude.{fold}
use Rattle.std.proofs.lemmas.Grind.{fold-append}
use Rattle.plain_store.specs.declared.Answer.TheVariants as answer
use Rattle.plain_store.specs.{Contents, changes}
use Rattle.model.specs.{Call, Mark, Place, Version, Wait, bits_with, enter, entered_if_none, first_full, greatest, is_fresh, is_last, lets_by, marks_of, max_of, newest_stamp, others, place_after, placed, processes, reply, run_after, store_read, waits_of}
use Rattle.model.specs.declared.marks.Mark.TheVariants.{Taken}
use Rattle.model.specs.Parts.{Part, Raises, Asks, TakesTicket, Lowers, Refuses, Waits, AsksCommit, AsksStamp, AsksImage, WritesImage, WritesStamp, WritesCommit, Clears, Over, first_marks, last_marks, part_after, to_b, to_d, to_e, to_g}
use Rattle.laws.specs.{is_inside_at, ticket_after}
use Rattle.laws.proofs.Notes.{ticket_by}

-- the knowledge of the ticket at a part, for the noted ticket and the last ticket in the marks
abbrev pub TicketAt : Part → (noted reported : ℕ) → Type 0
TicketAt Raises noted reported = Unit {0}
TicketAt (Asks j js ts) noted reported = Unit {0}
TicketAt (TakesTicket t) noted reported = Unit {0}
TicketAt (Lowers t) noted reported = noted ≡ t
TicketAt (Refuses f) noted reported = Unit {0}
TicketAt Over noted reported = Unit {0}
TicketAt _ noted reported = reported ≡ noted

-- The ticket after a part.

ticket-to_b : (c : Call) (js ts : List ℕ) (noted reported : ℕ) → TicketAt (to_b c js ts) noted reported
ticket-to_b c (j ∷ js) ts noted reported = tt
ticket-to_b c [] ts noted reported = go (greatest ts == max_of c.setup.ticket_bits)
  where
    go : (b : Bool) → TicketAt (elim b as (λ _. Part) [ true ↦ Refuses (first_full c ts) | false ↦ TakesTicket (greatest ts + 1) ]) noted reported
    go true = tt
    go false = tt

ticket-to_e : (ks : List ℕ) (vs : List Version) (noted reported : ℕ) → reported ≡ noted → TicketAt (to_e ks vs) noted reported
ticket-to_e [] vs noted reported h = h
ticket-to_e (k ∷ ks) vs noted reported h = h

ticket-to_d : (c : Call) (t : ℕ) (ws : List Wait) (noted reported : ℕ) → reported ≡ noted → TicketAt (to_d c t ws) noted (fold ticket_after reported (entered_if_none ws))
ticket-to_d c t [] noted reported h = ticket-to_e (processes c.setup) [] noted reported h
ticket-to_d c t (w ∷ ws) noted reported h = h

ticket-to_g : (c : Call) (vs : List Version) (st : Contents) (noted reported : ℕ) → reported ≡ noted → TicketAt (to_g c vs st) noted reported
ticket-to_g c vs st noted reported h = go (changes st c.command) (newest_stamp vs == max_of c.setup.stamp_bits)
  where
    go : (b d : Bool) → TicketAt (elim b as (λ _. Part) [ false ↦ Clears (answer.Reply (reply c st)) | true ↦ elim d as (λ _. Part) [ true ↦ Clears answer.StampsFull | false ↦ WritesImage vs st ] ]) noted reported
    go false d = h
    go true true = h
    go true false = h

-- after the last access of a part
part-on : (c : Call) (x : Part) (bits : List Bool) (noted reported : ℕ) → TicketAt x noted reported → TicketAt (part_after c x bits) (ticket_by x true noted) (fold ticket_after reported (last_marks c x bits))
part-on c Raises bits noted reported h = ticket-to_b c (others c.setup c.process) [] noted reported
part-on c (Asks j js ts) bits noted reported h = ticket-to_b c js _ noted reported
part-on c (TakesTicket t) bits noted reported h = refl
part-on c (Lowers t) bits noted reported h = ticket-to_d c t (waits_of c) noted t (sym h)
part-on c (Refuses f) bits noted reported h = tt
part-on c (Waits t w ws) bits noted reported h = go (lets_by c t w bits)
  where
    go : (b : Bool) → TicketAt (to_d c t (cond b ws (w ∷ ws))) noted (fold ticket_after reported (cond b (entered_if_none ws) []))
    go true = ticket-to_d c t ws noted reported h
    go false = h
part-on c (AsksCommit k ks vs) bits noted reported h = h
part-on c (AsksStamp k ks vs b) bits noted reported h = ticket-to_e ks _ noted reported h
part-on c (AsksImage vs) bits noted reported h = go (changes (store_read c bits) c.command)
  where
    go : (b : Bool) → TicketAt (to_g c vs (store_read c bits)) noted (fold ticket_after reported (cond b [] (Taken 0 (reply c (store_read c bits)) ∷ [])))
    go true = ticket-to_g c vs (store_read c bits) noted reported h
    go false = ticket-to_g c vs (store_read c bits) noted reported h
part-on c (WritesImage vs st) bits noted reported h = h
part-on c (WritesStamp vs st) bits noted reported h = h
part-on c (WritesCommit vs st) bits noted reported h = h
part-on c (Clears a) bits noted reported h = tt
part-on c Over bits noted reported h = tt

-- after any other access of a part
part-still : (x : Part) (noted reported : ℕ) → TicketAt x noted reported → TicketAt x (ticket_by x false noted) reported
part-still (TakesTicket t) noted reported h = tt
part-still _ noted reported h = h

-- The ticket after a step.

-- the marks on the first access of a part have no ticket
first-reports : (x : Part) (fresh : Bool) (reported : ℕ) → fold ticket_after reported (cond fresh (first_marks x) []) ≡ reported
first-reports x false reported = refl
first-reports (Clears a) true reported = refl
first-reports _ true reported = refl

-- the ticket in the marks does not depend on the place of a command
pub placed-reports : (k reported : ℕ) (ms : List Mark) → fold ticket_after reported (map (placed k) ms) ≡ fold ticket_after reported ms
placed-reports k reported [] = refl
placed-reports k reported (Taken i r ∷ ms) = placed-reports k reported ms
placed-reports k reported (m ∷ ms) = placed-reports k (ticket_after reported m) ms

pub place-on : (c : Call) (at : Place) (v : Bool) (noted reported : ℕ) → TicketAt at.part noted reported →
    TicketAt (place_after c at v).part (ticket_by at.part (is_last c at.part at.run) noted) (fold ticket_after reported (marks_of c at v))
place-on c at v noted reported h = subst (TicketAt (place_after c at v).part (ticket_by at.part (is_last c at.part at.run) noted)) (sym reports) (go (is_last c at.part at.run))
  where
    bits : List Bool
    bits = bits_with at.run v

    reports : fold ticket_after reported (marks_of c at v) ≡ fold ticket_after reported (cond (is_last c at.part at.run) (last_marks c at.part bits) [])
    reports = fold-append ticket_after reported (cond (is_fresh at.run) (first_marks at.part) []) (cond (is_last c at.part at.run) (last_marks c at.part bits) [])
        ∙ ap (λ t. fold ticket_after t (cond (is_last c at.part at.run) (last_marks c at.part bits) [])) (first-reports at.part (is_fresh at.run) reported)

    to : Bool → Place
    to b = cond b (enter c (part_after c at.part bits)) (record { part = at.part; run = run_after c at.part at.run v })

    go : (b : Bool) → TicketAt (to b).part (ticket_by at.part b noted) (fold ticket_after reported (cond b (last_marks c at.part bits) []))
    go true = part-on c at.part bits noted reported h
    go false = part-still at.part noted reported h

-- inside, the ticket that is held is the one in the marks
pub inside-reported : (x : Part) (fresh : Bool) (noted reported : ℕ) → TicketAt x noted reported → is_inside_at x fresh ≡ true → reported ≡ noted
inside-reported Raises fresh noted reported h is = absurd (true≢false (sym is))
inside-reported (Asks j js ts) fresh noted reported h is = absurd (true≢false (sym is))
inside-reported (TakesTicket t) fresh noted reported h is = absurd (true≢false (sym is))
inside-reported (Lowers t) fresh noted reported h is = absurd (true≢false (sym is))
inside-reported (Refuses f) fresh noted reported h is = absurd (true≢false (sym is))
inside-reported Over fresh noted reported h is = absurd (true≢false (sym is))
inside-reported _ fresh noted reported h is = h
