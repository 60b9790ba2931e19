-- The effect of an entry on the cells, and the value that the end of a read gives.
use Rattle.std.proofs.Common.{◌≡◌, ◌≢◌, ℕ, ◌==◌, ◌&&◌, Bool, true, false, cond, List, [], ◌∷◌, ◌++◌, Some, None, refl, sym, ap, subst, ◌∙◌, eqb-true, eq-eqb}
use Rattle.model.specs.safe_bit.Cell.{Cell, cell_of, read_answer}
use Rattle.model.specs.safe_bit.Cell as bit
use Rattle.model.specs.safe_bit.{Move, is_of_write}
use Rattle.model.specs.safe_bit.declared.Move.TheVariants.{BeginWrite, EndWrite, BeginRead, EndRead, Settle}
use Rattle.model.proofs.safe_bit.Showing.{answer-shows, shows_moves}
use Rattle.model.specs.{Access, Entry, Event, Field, Past, cell_after, copy, ended, ended_with, field_number, moves_of, opening_bit, past_of, same_bit, value_of, valued}
use Rattle.model.specs.declared.access.Field.TheVariants.{Choosing, Ticket, Commit, Stamp0, Stamp1, Image0, Image1}
use Rattle.plain_store.specs.{Setup}
use Rattle.model.proofs.TurnRecords.{turns_all}
use Rattle.model.proofs.Width.{IsGood}

-- the cells of o after the past: each reader's copy of each bit of each field
abbrev pub cells : Setup → Past → ℕ → Field → ℕ → ℕ → Cell
cells s past o f k r = cell_after s past (copy o f r k)

-- an entry with an access changes the cell of its bit, and no other
pub cells-entry : (s : Setup) (past : Past) (e : Entry) (x : Access) (o : ℕ) (f : Field) (k r : ℕ) → e.access ≡ Some x →
    cells s (e ∷ past) o f k r ≡ cond (same_bit (copy o f r k) x) (bit.cell_after (cells s past o f k r) x.how) (cells s past o f k r)
cells-entry s past e x o f k r h =
    ap (λ y. cell_of (opening_bit s a) (elim y as (λ _. List Move) [ None ↦ [] | Some b ↦ cond (same_bit a b) (b.how ∷ []) [] ] ++ moves_of a past)) h ∙ go (same_bit a x)
  where
    a : Access
    a = copy o f r k

    go : (b : Bool) → cell_of (opening_bit s a) (cond b (x.how ∷ []) [] ++ moves_of a past) ≡ cond b (bit.cell_after (cells s past o f k r) x.how) (cells s past o f k r)
    go true = refl
    go false = refl

-- an entry without one changes none
pub cells-kept : (s : Setup) (past : Past) (e : Entry) (o : ℕ) (f : Field) (k r : ℕ) → e.access ≡ None → cells s (e ∷ past) o f k r ≡ cells s past o f k r
cells-kept s past e o f k r h = ap (λ y. cell_of (opening_bit s a) (elim y as (λ _. List Move) [ None ↦ [] | Some b ↦ cond (same_bit a b) (b.how ∷ []) [] ] ++ moves_of a past)) h
  where
    a : Access
    a = copy o f r k

-- the field with this number
abbrev pub field_of : ℕ → Field
field_of n = cond (n == 0) Choosing (cond (n == 1) Ticket (cond (n == 2) Commit (cond (n == 3) Stamp0 (cond (n == 4) Stamp1 (cond (n == 5) Image0 Image1)))))

field_reported : (f : Field) → field_of (field_number f) ≡ f
field_reported Choosing = refl
field_reported _ = refl

pub field-same : (f g : Field) → (field_number f == field_number g) ≡ true → f ≡ g
field-same f g h = sym (field_reported f) ∙ ap field_of (eqb-true (field_number f) (field_number g) h) ∙ field_reported g

-- the access is on this very copy
pub record OnCopy (x : Access) (o : ℕ) (f : Field) (k r : ℕ) : Type 0 where
  pub owner : o ≡ x.owner
  pub field : f ≡ x.field
  pub bit : k ≡ x.bit
  pub reader : r ≡ x.reader

not_true : (b : Bool) → (b ≡ true → ⊥) → b ≡ false
not_true true h = absurd (h refl)
not_true false h = refl

all_four : (k r o f : Bool) → (k && r && o && f) ≡ true → (k ≡ true) × (r ≡ true) × (o ≡ true) × (f ≡ true)
all_four true true true true h = (refl, refl, refl, refl)
all_four _ _ _ _ h = cc

pub on-copy : (x : Access) (o : ℕ) (f : Field) (k r : ℕ) → same_bit (copy o f r k) x ≡ true → OnCopy x o f k r
on-copy x o f k r h =
    let four = all_four (k == x.bit) (r == x.reader) (o == x.owner) (field_number f == field_number x.field) h in
    record { owner = eqb-true o x.owner four.2; field = field-same f x.field four.3; bit = eqb-true k x.bit four.0; reader = eqb-true r x.reader four.1 }

pub off-field : (x : Access) (o : ℕ) (f : Field) (k r : ℕ) → f ≢ x.field → same_bit (copy o f r k) x ≡ false
off-field x o f k r h = not_true (same_bit (copy o f r k) x) (λ i. h (on-copy x o f k r i).field)

pub off-bit : (x : Access) (o : ℕ) (f : Field) (k r : ℕ) → k ≢ x.bit → same_bit (copy o f r k) x ≡ false
off-bit x o f k r h = not_true (same_bit (copy o f r k) x) (λ i. h (on-copy x o f k r i).bit)

pub off-reader : (x : Access) (o : ℕ) (f : Field) (k r : ℕ) → r ≢ x.reader → same_bit (copy o f r k) x ≡ false
off-reader x o f k r h = not_true (same_bit (copy o f r k) x) (λ i. h (on-copy x o f k r i).reader)

-- an access is on its own copy
pub itself : (x : Access) → same_bit (copy x.owner x.field x.reader x.bit) x ≡ true
itself x = λ i. one x.bit i && one x.reader i && one x.owner i && one (field_number x.field) i
  where
    one : (k : ℕ) → (k == k) ≡ true
    one k = eq-eqb k k refl

-- an access of p writes bits of p, and reads its own copies
pub record ByProcess (p : ℕ) (x : Access) : Type 0 where
  pub writes : is_of_write x.how ≡ true → x.owner ≡ p
  pub reads : is_of_write x.how ≡ false → x.reader ≡ p

-- an entry with such an access, or with none
pub data EntryBy (p : ℕ) (e : Entry) : Type 0 where
  marks_only : e.access ≡ None → EntryBy p e
  makes : (x : Access) → e.access ≡ Some x → ByProcess p x → EntryBy p e

-- the bits of others keep their value, and whether a write of them is open
pub record KeptBits (now before : Cell) : Type 0 where
  pub value : now.value ≡ before.value
  pub writing : now.writing ≡ before.writing

kept_read : (c : Cell) (m : Move) → is_of_write m ≡ false → KeptBits (bit.cell_after c m) c
kept_read c (BeginWrite v) h = cc
kept_read c EndWrite h = cc
kept_read c (Settle v) h = cc
kept_read c BeginRead h = record { value = refl; writing = refl }
kept_read c (EndRead v) h = record { value = refl; writing = refl }

pub cells-others : (s : Setup) (past : Past) (e : Entry) (p o : ℕ) (f : Field) (k r : ℕ) → EntryBy p e → o ≢ p → KeptBits (cells s (e ∷ past) o f k r) (cells s past o f k r)
cells-others s past e p o f k r (marks_only h) n = subst (λ c. KeptBits c (cells s past o f k r)) (sym (cells-kept s past e o f k r h)) (record { value = refl; writing = refl })
cells-others s past e p o f k r (makes x h by) n = subst (λ c. KeptBits c (cells s past o f k r)) (sym (cells-entry s past e x o f k r h)) (go (same_bit (copy o f r k) x) refl)
  where
    go : (b : Bool) → same_bit (copy o f r k) x ≡ b → KeptBits (cond b (bit.cell_after (cells s past o f k r) x.how) (cells s past o f k r)) (cells s past o f k r)
    go false i = record { value = refl; writing = refl }
    go true i = read (is_of_write x.how) refl
      where
        read : (w : Bool) → is_of_write x.how ≡ w → KeptBits (bit.cell_after (cells s past o f k r) x.how) (cells s past o f k r)
        read true j = absurd (n ((on-copy x o f k r i).owner ∙ by.writes j))
        read false j = kept_read (cells s past o f k r) x.how j

-- cells of another owner and another reader do not change
pub cells-apart : (s : Setup) (past : Past) (e : Entry) (p o : ℕ) (f : Field) (k r : ℕ) → EntryBy p e → o ≢ p → r ≢ p → cells s (e ∷ past) o f k r ≡ cells s past o f k r
cells-apart s past e p o f k r (marks_only h) n m = cells-kept s past e o f k r h
cells-apart s past e p o f k r (makes x h by) n m = cells-entry s past e x o f k r h ∙ go (same_bit (copy o f r k) x) refl
  where
    go : (b : Bool) → same_bit (copy o f r k) x ≡ b → cond b (bit.cell_after (cells s past o f k r) x.how) (cells s past o f k r) ≡ cells s past o f k r
    go false i = refl
    go true i = absurd (either (is_of_write x.how) refl)
      where
        either : (w : Bool) → is_of_write x.how ≡ w → ⊥
        either true j = n ((on-copy x o f k r i).owner ∙ by.writes j)
        either false j = m ((on-copy x o f k r i).reader ∙ by.reads j)

-- The end of a read gives what its cell answers: its value if no write touched the read, and the flick otherwise.
pub answer-is : (s : Setup) → IsGood s → (events : List Event) (x : Access) (flick : Bool) →
    valued s (past_of s events) flick x ≡ ended_with (read_answer (cells s (past_of s events) x.owner x.field x.bit x.reader) flick) x
answer-is s g events x flick = ap (λ v. ended_with v x) (sym (answer-shows (opening_bit s x) (moves_of x (past_of s events)) (cell_after s (past_of s events) x) flick
    (shows_moves (opening_bit s x) (moves_of x (past_of s events)) (turns_all s g events x))))

pub answer-read : (s : Setup) → IsGood s → (events : List Event) (x : Access) (u flick : Bool) → x.how ≡ EndRead u →
    value_of (valued s (past_of s events) flick x).how ≡ read_answer (cells s (past_of s events) x.owner x.field x.bit x.reader) flick
answer-read s g events x u flick h = ap (λ (y : Access). value_of y.how) (answer-is s g events x flick) ∙ ap (λ m. value_of (ended (read_answer (cells s (past_of s events) x.owner x.field x.bit x.reader) flick) m)) h
