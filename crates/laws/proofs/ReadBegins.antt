-- The read of a bit begins. If its register is whole, no write of the copy is open, so the read begins clean.
use Rattle.std.specs.Prelude.{◌≡◌, ℕ, ◌<◌, Bool, true, false, List, length}
use Rattle.std.proofs.Common.{refl, ◌∙◌, subst}
use Rattle.model.specs.declared.access.Field.TheVariants.{Choosing, Ticket}
use Rattle.plain_store.specs.{Command, Setup}
use Rattle.model.specs.{Asks, Past, Wait, Waits}
use Rattle.laws.proofs.Invariant.{CleanChoosing, CleanTicket, Inv, Moves, Touches, touches, wires}
use Rattle.laws.proofs.Notes.{notes}
use Rattle.laws.proofs.Reading.{AtRead, ReadAccess, only_copy, own_there, pair_there, reads, reads_on}

-- no copy of a held ticket is being written
ticket_begins : (s : Setup) (past : Past) (p j o : ℕ) (bits : List Bool) (since : ℕ) (v : Bool) (touched : ℕ → ℕ → Touches) →
    Inv s past → p < s.processes → o < s.processes → length bits < s.ticket_bits → ReadAccess s past p j Ticket (length bits) false v touched →
    (j ≡ o → CleanTicket s since bits false (notes s o past).holds (notes s o past).ticket (notes s o past).held_at (touches s past o p)) →
    j ≡ o → CleanTicket s since bits true (notes s o past).holds (notes s o past).ticket (notes s o past).held_at (touched o p)
ticket_begins s past p j o bits since v touched inv pb ob below access clean is holds held = (
  (clean is holds held).0,
  λ begun. subst (λ o. touched o p Ticket (length bits) ≡ (wires s past o Ticket (length bits) p).writing) is (access.mark refl) ∙ ((inv.own o ob).whole.ticket_whole holds (length bits) p below pb).writing,
)

-- no copy of a whole announcement is being written
choosing_begins : (s : Setup) (past : Past) (p j o : ℕ) (bits : List Bool) (since : ℕ) (v : Bool) (touched : ℕ → ℕ → Touches) →
    Inv s past → p < s.processes → o < s.processes → length bits < 1 → ReadAccess s past p j Choosing (length bits) false v touched →
    j ≡ o → CleanChoosing since bits true (notes s o past).announced (notes s o past).announced_at (touched o p)
choosing_begins s past p j o bits since v touched inv pb ob below access is announced since_then begun =
    subst (λ o. touched o p Choosing (length bits) ≡ (wires s past o Choosing (length bits) p).writing) is (access.mark refl) ∙ (only_copy s past p o (length bits) inv pb ob below announced).writing

-- the begin of a bit of a ticket in the doorway
pub asks_begins : (s : Setup) (past : Past) (p : ℕ) (command : Command) (number j : ℕ) (js ts : List ℕ) (bits : List Bool) (v : Bool) (touched : ℕ → ℕ → Touches) →
    AtRead s past p command number (Asks j js ts) bits false → ReadAccess s past p j Ticket (length bits) false v touched →
    Moves s past p (reads command number (Asks j js ts) bits true) (notes s p past) (wires s past p) touched
asks_begins s past p command number j js ts bits v touched h access =
    let own = own_there s past p command number (Asks j js ts) bits false h in
    reads_on s past p command number (Asks j js ts) bits bits false true touched h refl own.corresponds.1 own.corresponds.0.1
    (λ o small other.
    ticket_begins s past p j o bits (notes s p past).since v touched h.inv h.process small own.corresponds.0.1 access (pair_there s past p command number (Asks j js ts) bits false h o small other).clean)
    access.others

-- the begin of a bit of a ticket that is waited for
pub wait_ticket_begins : (s : Setup) (past : Past) (p : ℕ) (command : Command) (number t j : ℕ) (ws : List Wait) (bits : List Bool) (v : Bool) (touched : ℕ → ℕ → Touches) →
    AtRead s past p command number (Waits t (j, Ticket) ws) bits false → ReadAccess s past p j Ticket (length bits) false v touched →
    Moves s past p (reads command number (Waits t (j, Ticket) ws) bits true) (notes s p past) (wires s past p) touched
wait_ticket_begins s past p command number t j ws bits v touched h access =
    let own = own_there s past p command number (Waits t (j, Ticket) ws) bits false h in
    reads_on s past p command number (Waits t (j, Ticket) ws) bits bits false true touched h refl own.corresponds.1 own.corresponds.0.1
    (λ o small other.
    ticket_begins s past p j o bits (notes s p past).since v touched h.inv h.process small own.corresponds.0.1 access (pair_there s past p command number (Waits t (j, Ticket) ws) bits false h o small other).clean)
    access.others

-- the begin of a read of choosing
pub wait_choosing_begins : (s : Setup) (past : Past) (p : ℕ) (command : Command) (number t j : ℕ) (ws : List Wait) (bits : List Bool) (v : Bool) (touched : ℕ → ℕ → Touches) →
    AtRead s past p command number (Waits t (j, Choosing) ws) bits false → ReadAccess s past p j Choosing (length bits) false v touched →
    Moves s past p (reads command number (Waits t (j, Choosing) ws) bits true) (notes s p past) (wires s past p) touched
wait_choosing_begins s past p command number t j ws bits v touched h access =
    let own = own_there s past p command number (Waits t (j, Choosing) ws) bits false h in
    reads_on s past p command number (Waits t (j, Choosing) ws) bits bits false true touched h refl own.corresponds.1 own.corresponds.0.1
    (λ o small other. choosing_begins s past p j o bits (notes s p past).since v touched h.inv h.process small own.corresponds.0.1 access)
    access.others
