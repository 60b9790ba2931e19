-- The read of a bit ends. If it isn't the last one of its number, the bits so far stay clean, and the next bit is not yet begun.
use Rattle.std.specs.Prelude.{◌≡◌, ℕ, ◌+◌, ◌<◌, ◌==◌, Bool, true, false, cond, List, [], ◌∷◌, ◌++◌, length}
use Rattle.std.proofs.Common.{refl, subst, arith}
use Rattle.std.proofs.lemmas.Bool.{eqb-false, eqb-true, false≢true}
use Rattle.std.proofs.lemmas.List.{length_push}
use Rattle.model.specs.declared.access.Field.TheVariants.{Ticket}
use Rattle.plain_store.specs.{Command, Setup}
use Rattle.model.specs.{Asks, Part, Past, Reading, Wait, Waits, enter, part_after, read_at, width}
use Rattle.laws.specs.{call, runs}
use Rattle.laws.proofs.Invariant.{CleanTicket, Inv, Moves, Touches, next_time, touches, wires}
use Rattle.laws.proofs.Notes.{noted, notes}
use Rattle.laws.proofs.Reading.{AtRead, ReadAccess, own_there, pair_there, reads, reads_on, ticket_bit}

-- the place after the end of a bit, with these bits read; last: the number is read
abbrev pub EndsTo : Setup → Past → ℕ → Command → ℕ → Part → List Bool → (ℕ → ℕ → Touches) → Bool → Type 0
EndsTo s past p command number part bits touched last =
    Moves s past p (runs command number (cond last (enter (call s p command number) (part_after (call s p command number) part bits)) (record { part = part; run = Reading bits false })))
    (noted (call s p command number) (next_time past) part false last bits (notes s p past)) (wires s past p) touched

-- a property that holds in either case of a test holds
pub by_test : (b : Bool) (P : Bool → Type 0) → (b ≡ true → P true) → (b ≡ false → P false) → P b
by_test true P holds fails = holds refl
by_test false P holds fails = fails refl

-- either the number is read, or more bits are to be read
pub read_ends : (s : Setup) (past : Past) (p : ℕ) (command : Command) (number : ℕ) (part : Part) (bits : List Bool) (v : Bool) (touched : ℕ → ℕ → Touches) →
    AtRead s past p command number part bits true →
    (length bits + 1 ≡ width s (read_at (call s p command number) part).1 → EndsTo s past p command number part (bits ++ v ∷ []) touched true) →
    (length (bits ++ v ∷ []) < width s (read_at (call s p command number) part).1 → EndsTo s past p command number part (bits ++ v ∷ []) touched false) →
    EndsTo s past p command number part (bits ++ v ∷ []) touched (length bits + 1 == width s (read_at (call s p command number) part).1)
read_ends s past p command number part bits v touched h last more =
    by_test (length bits + 1 == wide) (EndsTo s past p command number part (bits ++ v ∷ []) touched)
    (λ e. last (eqb-true (length bits + 1) wide e))
    (λ e.
    let other : length bits + 1 ≡ wide → ⊥ = eqb-false (length bits + 1) wide e in
    let below : length bits < wide = (own_there s past p command number part bits true h).corresponds.0.1 in
    more (omega (arith, length_push bits v)))
  where
    wide : ℕ
    wide = width s (read_at (call s p command number) part).1

-- the bits of a held ticket stay clean
ticket_goes_on : (s : Setup) (past : Past) (p j o : ℕ) (bits : List Bool) (since : ℕ) (v : Bool) (touched : ℕ → ℕ → Touches) →
    Inv s past → p < s.processes → o < s.processes → length bits < s.ticket_bits → ReadAccess s past p j Ticket (length bits) true v touched →
    (j ≡ o → CleanTicket s since bits true (notes s o past).holds (notes s o past).ticket (notes s o past).held_at (touches s past o p)) →
    j ≡ o → CleanTicket s since (bits ++ v ∷ []) false (notes s o past).holds (notes s o past).ticket (notes s o past).held_at (touched o p)
ticket_goes_on s past p j o bits since v touched inv pb ob below access clean is holds held = (
  ticket_bit s past p o bits since v touched inv pb ob below (subst (λ o. ReadAccess s past p o Ticket (length bits) true v touched) is access) (clean is) holds held,
  λ begun. absurd (false≢true begun),
)

-- a bit of a ticket in the doorway
pub asks_on : (s : Setup) (past : Past) (p : ℕ) (command : Command) (number j : ℕ) (js ts : List ℕ) (bits : List Bool) (v : Bool) (touched : ℕ → ℕ → Touches) →
    AtRead s past p command number (Asks j js ts) bits true → ReadAccess s past p j Ticket (length bits) true v touched → length (bits ++ v ∷ []) < s.ticket_bits →
    Moves s past p (reads command number (Asks j js ts) (bits ++ v ∷ []) false) (notes s p past) (wires s past p) touched
asks_on s past p command number j js ts bits v touched h access more =
    let own = own_there s past p command number (Asks j js ts) bits true h in
    reads_on s past p command number (Asks j js ts) bits (bits ++ v ∷ []) true false touched h refl own.corresponds.1 more
    (λ o small other.
    ticket_goes_on s past p j o bits (notes s p past).since v touched h.inv h.process small own.corresponds.0.1 access (pair_there s past p command number (Asks j js ts) bits true h o small other).clean)
    access.others

-- a bit of a ticket that is waited for
pub wait_ticket_on : (s : Setup) (past : Past) (p : ℕ) (command : Command) (number t j : ℕ) (ws : List Wait) (bits : List Bool) (v : Bool) (touched : ℕ → ℕ → Touches) →
    AtRead s past p command number (Waits t (j, Ticket) ws) bits true → ReadAccess s past p j Ticket (length bits) true v touched → length (bits ++ v ∷ []) < s.ticket_bits →
    Moves s past p (reads command number (Waits t (j, Ticket) ws) (bits ++ v ∷ []) false) (notes s p past) (wires s past p) touched
wait_ticket_on s past p command number t j ws bits v touched h access more =
    let own = own_there s past p command number (Waits t (j, Ticket) ws) bits true h in
    reads_on s past p command number (Waits t (j, Ticket) ws) bits (bits ++ v ∷ []) true false touched h refl own.corresponds.1 more
    (λ o small other.
    ticket_goes_on s past p j o bits (notes s p past).since v touched h.inv h.process small own.corresponds.0.1 access (pair_there s past p command number (Waits t (j, Ticket) ws) bits true h o small other).clean)
    access.others
