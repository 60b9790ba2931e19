-- A read under way: the knowledge of p there, the part of it that stays during the read, and the bit that its open copy gives.
use Rattle.std.specs.Prelude.{◌≡◌, ◌≢◌, ℕ, ◌+◌, ◌<◌, ◌≤◌, Bool, true, false, List, [], ◌∷◌, ◌++◌, length}
use Rattle.std.proofs.Common.{refl, sym, ◌∙◌, subst, arith}
use Rattle.std.proofs.lemmas.List.{length_push}
use Rattle.model.specs.{Field, Part, Past, Reading, is_fresh, read_at, width}
use Rattle.model.specs.declared.access.Field.TheVariants.{Choosing, Ticket}
use Rattle.model.specs.safe_number.{number_of_bits}
use Rattle.plain_store.specs.{Command, Setup}
use Rattle.laws.proofs.Bits.{AreBitsOf, number_read, one_more_bit}
use Rattle.laws.specs.{Doing, Runs, call, doing, is_inside_at}
use Rattle.laws.proofs.Invariant.{CleanChoosing, CleanRun, CleanTicket, Closed, Inv, Moves, Own, Pair, PartCorresponds, Touches, next_time, ticket_of, touches, wires}
use Rattle.laws.proofs.Moving.{past_later}
use Rattle.laws.proofs.Notes.{notes}
use Rattle.laws.proofs.Ready.{Ready, moves_to}

-- these bits of a part's register were read, and the read of the next one is open, or not
abbrev pub reads : Command → ℕ → Part → List Bool → Bool → Doing
reads command number part bits begun = Runs command number (record { part = part; run = Reading bits begun })

-- p does that, and the invariant holds
pub record AtRead (s : Setup) (past : Past) (p : ℕ) (command : Command) (number : ℕ) (part : Part) (bits : List Bool) (begun : Bool) : Type 0 where
  pub inv : Inv s past
  pub process : p < s.processes
  pub is : doing s p past ≡ reads command number part bits begun

-- the knowledge of p then
pub own_there : (s : Setup) (past : Past) (p : ℕ) (command : Command) (number : ℕ) (part : Part) (bits : List Bool) (begun : Bool) → AtRead s past p command number part bits begun →
    Own s p (next_time past) (reads command number part bits begun) (notes s p past) (wires s past p)
own_there s past p command number part bits begun h = subst (λ d. Own s p (next_time past) d (notes s p past) (wires s past p)) h.is (h.inv.own p h.process)

-- the knowledge of p about the others
pub pair_there : (s : Setup) (past : Past) (p : ℕ) (command : Command) (number : ℕ) (part : Part) (bits : List Bool) (begun : Bool) → AtRead s past p command number part bits begun →
    (o : ℕ) → o < s.processes → o ≢ p → Pair s o (reads command number part bits begun) (notes s p past) (notes s o past) (touches s past o p)
pair_there s past p command number part bits begun h o below other =
    subst (λ d. Pair s o d (notes s p past) (notes s o past) (touches s past o p)) h.is (h.inv.pair p o h.process below (λ same. other (sym same)))

-- all that p keeps except its place
pub ready_there : (s : Setup) (past : Past) (p : ℕ) (command : Command) (number : ℕ) (part : Part) (bits : List Bool) (begun : Bool) (touched : ℕ → ℕ → Touches) → AtRead s past p command number part bits begun →
    ((r : ℕ) → r ≢ p → touched p r ≡ touches s past p r) → Ready s past p (is_inside_at part (is_fresh (Reading bits begun))) (notes s p past) (wires s past p) touched
ready_there s past p command number part bits begun touched h kept =
    let own = own_there s past p command number part bits begun h in
    record {
      times = past_later _ _ _ _ _ _ _ _ _ own.past;
      whole = own.whole;
      senior = own.senior;
      knows = λ o below other. (pair_there s past p command number part bits begun h o below other).knows;
      owner = λ r below other. subst (λ t. Pair s p (doing s r past) (notes s r past) (notes s p past) t) (sym (kept r other)) (h.inv.pair r p below h.process other);
    }

-- the read continues: it only has to be shown clean
pub reads_on : (s : Setup) (past : Past) (p : ℕ) (command : Command) (number : ℕ) (part : Part) (bits bits' : List Bool) (begun begun' : Bool) (touched : ℕ → ℕ → Touches) →
    AtRead s past p command number part bits begun →
    is_inside_at part (is_fresh (Reading bits begun)) ≡ is_inside_at part (is_fresh (Reading bits' begun')) →
    PartCorresponds s p (notes s p past) part (is_fresh (Reading bits' begun')) →
    length bits' < width s (read_at (call s p command number) part).1 →
    ((o : ℕ) → o < s.processes → o ≢ p → CleanRun s o part (Reading bits' begun') (notes s p past).since (notes s o past) (touched o p)) →
    ((r : ℕ) → r ≢ p → touched p r ≡ touches s past p r) →
    Moves s past p (reads command number part bits' begun') (notes s p past) (wires s past p) touched
reads_on s past p command number part bits bits' begun begun' touched h inside corresponds below clean kept =
    moves_to s past p (reads command number part bits' begun') (notes s p past) (wires s past p) touched
    (subst (λ is. Ready s past p is (notes s p past) (wires s past p) touched) inside (ready_there s past p command number part bits begun touched h kept))
    (((own_there s past p command number part bits begun h).corresponds.0.0, below), corresponds) clean

-- the one bit of an announcement that is whole
pub only_copy : (s : Setup) (past : Past) (p o k : ℕ) → Inv s past → p < s.processes → o < s.processes → k < 1 → (notes s o past).announced ≡ true → Closed (wires s past o Choosing k p) true
only_copy s past p o k inv pb ob below announced =
    let first : 0 ≡ k = omega arith in
    subst (λ k. Closed (wires s past o Choosing k p) true) first ((inv.own o ob).whole.choosing announced p pb)

-- The effect of p's access, at bit k of a field of o: a begin marks whether a write of its copy is open; an end, if no write touched the read, gives the value of the copy.
pub record ReadAccess (s : Setup) (past : Past) (p o : ℕ) (f : Field) (k : ℕ) (begun v : Bool) (touched : ℕ → ℕ → Touches) : Type 0 where
  pub mark : begun ≡ false → touched o p f k ≡ (wires s past o f k p).writing
  pub value : begun ≡ true → touches s past o p f k ≡ false → v ≡ (wires s past o f k p).value
  pub others : (r : ℕ) → r ≢ p → touched p r ≡ touches s past p r

-- if a ticket is held, all its bits so far and the one that the open copy gives
pub ticket_bit : (s : Setup) (past : Past) (p o : ℕ) (bits : List Bool) (since : ℕ) (v : Bool) (touched : ℕ → ℕ → Touches) →
    Inv s past → p < s.processes → o < s.processes → length bits < s.ticket_bits → ReadAccess s past p o Ticket (length bits) true v touched →
    CleanTicket s since bits true (notes s o past).holds (notes s o past).ticket (notes s o past).held_at (touches s past o p) →
    (notes s o past).holds ≡ true → (notes s o past).held_at ≤ since → AreBitsOf (ticket_of s (notes s o past).ticket) (bits ++ v ∷ [])
ticket_bit s past p o bits since v touched inv pb ob below access clean holds held =
    let so_far = clean holds held in
    one_more_bit (ticket_of s (notes s o past).ticket) bits v so_far.0
    (access.value refl (so_far.1 refl) ∙ ((inv.own o ob).whole.ticket_whole holds (length bits) p below pb).value)

-- if an announcement is whole, the bit that the open copy gives
pub choosing_bit : (s : Setup) (past : Past) (p o : ℕ) (bits : List Bool) (since : ℕ) (v : Bool) (touched : ℕ → ℕ → Touches) →
    Inv s past → p < s.processes → o < s.processes → length bits < 1 → ReadAccess s past p o Choosing (length bits) true v touched →
    CleanChoosing since bits true (notes s o past).announced (notes s o past).announced_at (touches s past o p) →
    (notes s o past).announced ≡ true → (notes s o past).announced_at ≤ since → v ≡ true
choosing_bit s past p o bits since v touched inv pb ob below access clean announced since_then =
    access.value refl (clean announced since_then refl) ∙ (only_copy s past p o (length bits) inv pb ob below announced).value

-- all bits of a held ticket: the ticket
pub ticket_read : (s : Setup) (past : Past) (p o : ℕ) (bits : List Bool) (since : ℕ) (v : Bool) (touched : ℕ → ℕ → Touches) →
    Inv s past → p < s.processes → o < s.processes → length bits + 1 ≡ s.ticket_bits → ReadAccess s past p o Ticket (length bits) true v touched →
    CleanTicket s since bits true (notes s o past).holds (notes s o past).ticket (notes s o past).held_at (touches s past o p) →
    (notes s o past).holds ≡ true → (notes s o past).held_at ≤ since → number_of_bits (bits ++ v ∷ []) ≡ (notes s o past).ticket
ticket_read s past p o bits since v touched inv pb ob last access clean holds held =
    number_read s.ticket_bits (notes s o past).ticket (bits ++ v ∷ []) ((inv.own o ob).senior.fits holds) (length_push bits v ∙ last)
    (ticket_bit s past p o bits since v touched inv pb ob (omega arith) access clean holds held)
