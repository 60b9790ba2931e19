-- The accesses that a withdrawal and a memory unit have left, by their machine.
use Rattle.std.proofs.Common.{◌≡◌, ℕ, zero, suc, ◌+◌, ◌-◌, ◌<◌, ◌==◌, ◌&&◌, Bool, true, false, cond, List, [], ◌∷◌, ◌++◌, Some, length, map, refl, sym, ap, ◌∙◌, arith, append-nil}
use Rattle.std.proofs.lemmas.Bool.{eqb-true, eqb-false}
use Rattle.std.proofs.lemmas.List.{length-map}
use Rattle.reader_copies.specs.{Made}
use Rattle.reader_copies.specs.Runs as copies
use Rattle.reader_copies.proofs.Orders.{rest-settle}
use Rattle.model.specs.{Access, Call, Mark, Next, Script, access_of, next_written, single, singles, write_moved, writing}
use Rattle.model.specs.declared.access.Field.TheVariants.{Choosing, Ticket}
use Rattle.safe_number.specs.{NumberWrite, at_bit, new_write}
use Rattle.safe_number.proofs.Bits.{length-bits_of_number}
use Rattle.plain_store.specs.declared.Answer.TheVariants as answer
use Rattle.model.specs.declared.marks.Mark.TheVariants.{Left, Answered, Down}
use Rattle.model.specs.Closings.{Closing, Withdraws, Settles, Frees, Lowers, Quit, Ended, no_ticket, is_unwritten, settled_marks, freeing, closing_next, closing_after}
use Rattle.model.proofs.Cursors.{Goes, Moved, left_written, remaining-next, remaining-new, remaining-done, write-moves}

-- the unit's last write, and its two writes
abbrev pub lowering : Call → Script
lowering c = writing c Choosing (false ∷ []) [] (Down ∷ []) ∷ []

abbrev pub clearing_too : Call → Bool → Script
clearing_too c is = writing c Ticket (no_ticket c) (cond is (Left ∷ []) []) [] ∷ lowering c

-- the accesses and marks that are left; v is the value that is settled at
abbrev pub remaining : Call → Closing → Bool → List Next
remaining c (Withdraws w) v = single [] (Answered answer.Withdrawn ∷ []) (map (access_of c.process Ticket) (left_written c.setup.processes (no_ticket c) w))
remaining c (Settles field bit begun taken is t) v =
    single [] (settled_marks begun taken v) (map (access_of c.process field) (map (at_bit bit) (copies.rest_of_settling c.setup.processes t v))) ++ singles (clearing_too c is)
remaining c (Frees is w) v = single (cond (is && is_unwritten w) (Left ∷ []) []) [] (map (access_of c.process Ticket) (left_written c.setup.processes (no_ticket c) w)) ++ singles (lowering c)
remaining c (Lowers w) v = single [] (Down ∷ []) (map (access_of c.process Choosing) (left_written c.setup.processes (false ∷ []) w))
remaining c Quit v = []
remaining c Ended v = []

-- it goes on, at this value
abbrev pub Fit : Call → Closing → Bool → Bool → Type 0
Fit c (Withdraws w) v flick = Goes c.setup.processes (no_ticket c) w
Fit c (Settles field bit begun taken is t) v flick = (t.reader < c.setup.processes) × (copies.settled_at t flick ≡ v)
Fit c (Frees is w) v flick = Goes c.setup.processes (no_ticket c) w
Fit c (Lowers w) v flick = Goes c.setup.processes (false ∷ []) w
Fit c Quit v flick = Unit {0}
Fit c Ended v flick = Unit {0}

-- the marks of an access, and the accesses after it
pub single-step : (f l : List Mark) (x : Access) (xs : List Access) (b : Bool) → (b ≡ true → xs ≡ []) → (b ≡ false → 0 < length xs) →
    single f l (x ∷ xs) ≡ (let n : Next = record { access = x; marks = f ++ cond b l [] } in n) ∷ single [] l xs
single-step f l x [] true none some = refl
single-step f l x [] false none some = absurd (omega (arith, some refl))
single-step f l x (y ∷ ys) true none some = let e : y ∷ ys ≡ [] = none refl in cc
single-step f l x (y ∷ ys) false none some = ap (λ m. (let n : Next = record { access = x; marks = m } in n) ∷ single [] l (y ∷ ys)) (sym (append-nil f))

-- a write that has come to its last access has nothing left after it; any other write continues
pub record Further (n : ℕ) (bits : List Bool) (w : NumberWrite) : Type 0 where
  pub none : ((write_moved n bits w).bit == w.width) ≡ true → left_written n bits (write_moved n bits w) ≡ []
  pub goes : ((write_moved n bits w).bit == w.width) ≡ false → Goes n bits (write_moved n bits w)
  pub begun : is_unwritten (write_moved n bits w) ≡ false

pub further : (n : ℕ) (bits : List Bool) (w : NumberWrite) → 0 < n → Goes n bits w → Further n bits w
further n bits w some on = record {
  none = λ l. remaining-done n bits to (eqb-true to.bit w.width l ∙ sym same);
  goes = λ l. let apart : to.bit ≡ w.width → ⊥ = eqb-false to.bit w.width l in record { width = m.width; inside = omega (arith, m.inside, same, apart); going = m.going };
  begun = m.begun;
}
  where
    to : NumberWrite
    to = write_moved n bits w

    m : Moved n bits to
    m = write-moves n bits w some on

    same : to.width ≡ w.width
    same = m.width ∙ sym on.width

-- one access of a write
pub write-step : (n : ℕ) (bits : List Bool) (w : NumberWrite) (f : ℕ × Made → Access) (first last : List Mark) → 0 < n → Goes n bits w →
    single first last (map f (left_written n bits w))
    ≡ (let x : Next = record { access = f (next_written bits w); marks = first ++ cond ((write_moved n bits w).bit == w.width) last [] } in x) ∷ single [] last (map f (left_written n bits (write_moved n bits w)))
write-step n bits w f first last some on =
    ap (λ l. single first last (map f l)) (remaining-next n bits w on)
    ∙ single-step first last (f (next_written bits w)) (map f (left_written n bits to)) (to.bit == w.width) (λ l. ap (map f) (more.none l))
    (λ l. omega (arith, length-map (left_written n bits to) f, ap length (remaining-next n bits to (more.goes l))))
  where
    to : NumberWrite
    to = write_moved n bits w

    more : Further n bits w
    more = further n bits w some on

-- one access of a settling
pub record Settled-on (n : ℕ) (t : copies.Settling) (v : Bool) : Type 0 where
  pub none : ((copies.settle_after t v).reader == n) ≡ true → copies.rest_of_settling n (copies.settle_after t v) v ≡ []
  pub some : ((copies.settle_after t v).reader == n) ≡ false → 0 < length (copies.rest_of_settling n (copies.settle_after t v) v)
  pub inside : ((copies.settle_after t v).reader == n) ≡ false → (copies.settle_after t v).reader < n
  pub value : (flick : Bool) → copies.settled_at (copies.settle_after t v) flick ≡ v

settles-some : (m r n : ℕ) (v : Bool) → 0 < n → 0 < length (copies.settles_from m r n v)
settles-some m r zero v h = absurd (omega arith)
settles-some m r (suc n) v h = go (copies.is_open_at m r)
  where
    go : (b : Bool) → 0 < length (cond b ((let x : Made = record { reader = r; how = Rattle.safe_bit.specs.declared.Move.TheVariants.Settle v } in x) ∷ copies.settles_from m (r + 1) n v)
        ((let x : Made = record { reader = r; how = Rattle.safe_bit.specs.declared.Move.TheVariants.BeginWrite v } in x) ∷ (let x : Made = record { reader = r; how = Rattle.safe_bit.specs.declared.Move.TheVariants.EndWrite } in x) ∷ copies.settles_from m (r + 1) n v))
    go true = omega arith
    go false = omega arith

settled-on : (m r n : ℕ) (b : Bool) (v : Bool) → r < n
    → let t : copies.Settling = cond b (record { made = m; reader = r + 1; begun = false; value = Some v }) (record { made = m; reader = r; begun = true; value = Some v }) in
    ((t.reader == n) ≡ true → copies.rest_of_settling n t v ≡ []) × ((t.reader == n) ≡ false → 0 < length (copies.rest_of_settling n t v)) × ((t.reader == n) ≡ false → t.reader < n) × ((flick : Bool) → copies.settled_at t flick ≡ v)
settled-on m r n true v h = (
  (λ l. let all : r + 1 ≡ n = eqb-true (r + 1) n l in let nothing : n - (r + 1) ≡ 0 = omega arith in ap (λ k. copies.settles_from m (r + 1) k v) nothing),
  (λ l. let apart : r + 1 ≡ n → ⊥ = eqb-false (r + 1) n l in settles-some m (r + 1) (n - (r + 1)) v (omega arith)),
  (λ l. let apart : r + 1 ≡ n → ⊥ = eqb-false (r + 1) n l in omega arith),
  λ flick. refl,
)
settled-on m r n false v h = (
  (λ l. let all : r ≡ n = eqb-true r n l in absurd (omega arith)),
  (λ l. omega arith),
  (λ l. h),
  λ flick. refl,
)

pub settles-on : (n : ℕ) (t : copies.Settling) (v : Bool) → t.reader < n → Settled-on n t v
settles-on n t v h = let s = settled-on t.made t.reader n (Rattle.std.specs.Prelude.◌||◌ t.begun (copies.is_open_at t.made t.reader)) v h in record { none = s.0; some = s.1; inside = s.2; value = s.3 }

pub settle-step : (n : ℕ) (t : copies.Settling) (v : Bool) (f : ℕ × Made → Access) (bit : ℕ) (last : List Mark) → t.reader < n →
    single [] last (map f (map (at_bit bit) (copies.rest_of_settling n t v)))
    ≡ (let x : Next = record { access = f (bit, copies.next_settle t v); marks = cond ((copies.settle_after t v).reader == n) last [] } in x)
    ∷ single [] last (map f (map (at_bit bit) (copies.rest_of_settling n (copies.settle_after t v) v)))
settle-step n t v f bit last h =
    ap (λ l. single [] last (map f (map (at_bit bit) l))) (rest-settle n t v h)
    ∙ single-step [] last (f (bit, copies.next_settle t v)) (map f (map (at_bit bit) rest)) ((copies.settle_after t v).reader == n) (λ l. ap (λ k. map f (map (at_bit bit) k)) (on.none l))
    (λ l. omega (arith, length-map (map (at_bit bit) rest) f, length-map rest (at_bit bit), on.some l))
  where
    rest : List Made
    rest = copies.rest_of_settling n (copies.settle_after t v) v

    on : Settled-on n t v
    on = settles-on n t v h

-- a new write of the ticket, and of the choosing bit, is that of the unit
pub ticket_width : (c : Call) → c.setup.ticket_bits ≡ length (no_ticket c)
ticket_width c = sym (length-bits_of_number c.setup.ticket_bits 0)

pub lowering-new : (c : Call) (v : Bool) → singles (lowering c) ≡ remaining c (Lowers (new_write 1)) v
lowering-new c v = append-nil _ ∙ ap (λ l. single [] (Down ∷ []) (map (access_of c.process Choosing) l)) (sym (remaining-new c.setup.processes (false ∷ []) 1 refl))

pub freeing-new : (c : Call) (is v : Bool) → singles (clearing_too c is) ≡ remaining c (freeing c is) v
freeing-new c is v = ap (λ l. single (cond is (Left ∷ []) []) [] (map (access_of c.process Ticket) l) ++ singles (lowering c)) (sym (remaining-new c.setup.processes (no_ticket c) c.setup.ticket_bits (ticket_width c))) ∙ go is
  where
    go : (is : Bool) → single (cond is (Left ∷ []) []) [] (map (access_of c.process Ticket) (left_written c.setup.processes (no_ticket c) (new_write c.setup.ticket_bits))) ++ singles (lowering c)
        ≡ single (cond (is && true) (Left ∷ []) []) [] (map (access_of c.process Ticket) (left_written c.setup.processes (no_ticket c) (new_write c.setup.ticket_bits))) ++ singles (lowering c)
    go true = refl
    go false = refl

-- the accesses that are left begin with the next access, and the rest of them are left after it
abbrev pub Steps : Call → Closing → Bool → Bool → Type 0
Steps c at v flick = (n : Next) × (closing_next c at flick ≡ Some n) × (remaining c at v ≡ n ∷ remaining c (closing_after c at flick) v) × ((more : Bool) → Fit c (closing_after c at flick) v more)
