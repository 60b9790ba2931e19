-- The effect of an entry on the registers and on the marks of overlap.
use Rattle.std.proofs.Common.{◌≡◌, ◌≢◌, ℕ, Bool, true, false, cond, List, ◌∷◌, Some, None, refl, ap, ◌∙◌}
use Rattle.model.specs.safe_bit.Cell.{Cell}
use Rattle.model.specs.safe_bit.Cell as bit
use Rattle.model.specs.safe_bit.{Move, is_of_write}
use Rattle.model.specs.safe_bit.declared.Move.TheVariants.{BeginWrite, EndWrite, BeginRead, EndRead, Settle}
use Rattle.model.specs.{Access, Entry, Event, Field, Past, copy, past_of, same_bit, value_of, valued}
use Rattle.plain_store.specs.{Setup}
use Rattle.model.proofs.Width.{IsGood}
use Rattle.laws.proofs.FrameCells.{cells, cells-entry, cells-kept, cells-others, cells-apart, KeptBits, EntryBy, off-field, off-reader, itself, answer-read}
use Rattle.laws.proofs.Invariant.{Wire, wire, wires, touches}

-- a copy's wire after a move on it
abbrev pub wire_after : Wire → Move → Wire
wire_after w (BeginWrite v) = record { value = v; writing = true }
wire_after w EndWrite = record { value = w.value; writing = false }
wire_after w BeginRead = w
wire_after w (EndRead v) = w
wire_after w (Settle v) = record { value = v; writing = false }

-- whether its read was touched by a write
abbrev pub touched_after : Wire → Bool → Move → Bool
touched_after w was (BeginWrite v) = true
touched_after w was EndWrite = was
touched_after w was BeginRead = w.writing
touched_after w was (EndRead v) = was
touched_after w was (Settle v) = was

pub wire-moved : (c : Cell) (m : Move) → wire (bit.cell_after c m) ≡ wire_after (wire c) m
wire-moved c (BeginWrite v) = refl
wire-moved c _ = refl

pub touched-moved : (c : Cell) (m : Move) → (bit.cell_after c m).touched ≡ touched_after (wire c) c.touched m
touched-moved c (BeginWrite v) = refl
touched-moved c _ = refl

read-keeps : (w : Wire) (m : Move) → is_of_write m ≡ false → wire_after w m ≡ w
read-keeps w (BeginWrite v) h = cc
read-keeps w EndWrite h = cc
read-keeps w BeginRead h = refl
read-keeps w (EndRead v) h = refl
read-keeps w (Settle v) h = cc

-- an entry with an access moves the wire of its copy, and no other
pub wires-entry : (s : Setup) (past : Past) (e : Entry) (x : Access) (o : ℕ) (f : Field) (k r : ℕ) → e.access ≡ Some x →
    wires s (e ∷ past) o f k r ≡ cond (same_bit (copy o f r k) x) (wire_after (wires s past o f k r) x.how) (wires s past o f k r)
wires-entry s past e x o f k r h = ap wire (cells-entry s past e x o f k r h) ∙ go (same_bit (copy o f r k) x)
  where
    go : (b : Bool) → wire (cond b (bit.cell_after (cells s past o f k r) x.how) (cells s past o f k r)) ≡ cond b (wire_after (wires s past o f k r) x.how) (wires s past o f k r)
    go true = wire-moved (cells s past o f k r) x.how
    go false = refl

pub touches-entry : (s : Setup) (past : Past) (e : Entry) (x : Access) (o r : ℕ) (f : Field) (k : ℕ) → e.access ≡ Some x →
    touches s (e ∷ past) o r f k ≡ cond (same_bit (copy o f r k) x) (touched_after (wires s past o f k r) (touches s past o r f k) x.how) (touches s past o r f k)
touches-entry s past e x o r f k h = ap (λ (c : Cell). c.touched) (cells-entry s past e x o f k r h) ∙ go (same_bit (copy o f r k) x)
  where
    go : (b : Bool) → (cond b (bit.cell_after (cells s past o f k r) x.how) (cells s past o f k r)).touched ≡ cond b (touched_after (wires s past o f k r) (touches s past o r f k) x.how) (touches s past o r f k)
    go true = touched-moved (cells s past o f k r) x.how
    go false = refl

-- an entry without one changes nothing
pub wires-kept : (s : Setup) (past : Past) (e : Entry) (o : ℕ) → e.access ≡ None → wires s (e ∷ past) o ≡ wires s past o
wires-kept s past e o h = λ i f k r. wire (cells-kept s past e o f k r h i)

pub touches-kept : (s : Setup) (past : Past) (e : Entry) (o r : ℕ) → e.access ≡ None → touches s (e ∷ past) o r ≡ touches s past o r
touches-kept s past e o r h = λ i f k. (cells-kept s past e o f k r h i).touched

-- an entry of p leaves the registers of others as they are
pub wires-others : (s : Setup) (past : Past) (e : Entry) (p o : ℕ) → EntryBy p e → o ≢ p → wires s (e ∷ past) o ≡ wires s past o
wires-others s past e p o by n = λ i f k r. same (cells-others s past e p o f k r by n) i
  where
    same : {now before : Cell} → KeptBits now before → wire now ≡ wire before
    same k = λ i. record { value = k.value i; writing = k.writing i }

-- the marks of overlap of other readers on others' registers stay
pub touches-apart : (s : Setup) (past : Past) (e : Entry) (p o r : ℕ) → EntryBy p e → o ≢ p → r ≢ p → touches s (e ∷ past) o r ≡ touches s past o r
touches-apart s past e p o r by n m = λ i f k. (cells-apart s past e p o f k r by n m i).touched

-- an access of a read leaves all registers as they are
pub wires-read : (s : Setup) (past : Past) (e : Entry) (x : Access) (o : ℕ) → e.access ≡ Some x → is_of_write x.how ≡ false → wires s (e ∷ past) o ≡ wires s past o
wires-read s past e x o h w = λ i f k r. one f k r i
  where
    one : (f : Field) (k r : ℕ) → wires s (e ∷ past) o f k r ≡ wires s past o f k r
    one f k r = wires-entry s past e x o f k r h ∙ go (same_bit (copy o f r k) x)
      where
        go : (b : Bool) → cond b (wire_after (wires s past o f k r) x.how) (wires s past o f k r) ≡ wires s past o f k r
        go true = read-keeps (wires s past o f k r) x.how w
        go false = refl

-- the wire of the access itself
pub wires-here : (s : Setup) (past : Past) (e : Entry) (x : Access) → e.access ≡ Some x →
    wires s (e ∷ past) x.owner x.field x.bit x.reader ≡ wire_after (wires s past x.owner x.field x.bit x.reader) x.how
wires-here s past e x h = wires-entry s past e x x.owner x.field x.bit x.reader h
    ∙ ap (λ b. cond b (wire_after (wires s past x.owner x.field x.bit x.reader) x.how) (wires s past x.owner x.field x.bit x.reader)) (itself x)

-- every other wire
pub wires-there : (s : Setup) (past : Past) (e : Entry) (x : Access) (o : ℕ) (f : Field) (k r : ℕ) → e.access ≡ Some x → same_bit (copy o f r k) x ≡ false →
    wires s (e ∷ past) o f k r ≡ wires s past o f k r
wires-there s past e x o f k r h n = wires-entry s past e x o f k r h ∙ ap (λ b. cond b (wire_after (wires s past o f k r) x.how) (wires s past o f k r)) n

-- the other fields stay as they are
pub wires-fields : (s : Setup) (past : Past) (e : Entry) (x : Access) (o : ℕ) (f : Field) → e.access ≡ Some x → f ≢ x.field → wires s (e ∷ past) o f ≡ wires s past o f
wires-fields s past e x o f h n = λ i k r. wires-there s past e x o f k r h (off-field x o f k r n) i

pub touches-there : (s : Setup) (past : Past) (e : Entry) (x : Access) (o r : ℕ) (f : Field) (k : ℕ) → e.access ≡ Some x → same_bit (copy o f r k) x ≡ false →
    touches s (e ∷ past) o r f k ≡ touches s past o r f k
touches-there s past e x o r f k h n = touches-entry s past e x o r f k h ∙ ap (λ b. cond b (touched_after (wires s past o f k r) (touches s past o r f k) x.how) (touches s past o r f k)) n

pub touches-fields : (s : Setup) (past : Past) (e : Entry) (x : Access) (o r : ℕ) (f : Field) → e.access ≡ Some x → f ≢ x.field → touches s (e ∷ past) o r f ≡ touches s past o r f
touches-fields s past e x o r f h n = λ i k. touches-there s past e x o r f k h (off-field x o f k r n) i

pub touches-readers : (s : Setup) (past : Past) (e : Entry) (x : Access) (o r : ℕ) → e.access ≡ Some x → r ≢ x.reader → touches s (e ∷ past) o r ≡ touches s past o r
touches-readers s past e x o r h n = λ i f k. touches-there s past e x o r f k h (off-reader x o f k r n) i

-- a read that begins is touched if a write is open
pub touches-begun : (s : Setup) (past : Past) (e : Entry) (x : Access) → e.access ≡ Some x → x.how ≡ BeginRead →
    touches s (e ∷ past) x.owner x.reader x.field x.bit ≡ (wires s past x.owner x.field x.bit x.reader).writing
touches-begun s past e x h b = touches-entry s past e x x.owner x.reader x.field x.bit h
    ∙ ap (λ b. cond b (touched_after (wires s past x.owner x.field x.bit x.reader) (touches s past x.owner x.reader x.field x.bit) x.how) (touches s past x.owner x.reader x.field x.bit)) (itself x)
    ∙ ap (touched_after (wires s past x.owner x.field x.bit x.reader) (touches s past x.owner x.reader x.field x.bit)) b

-- The end of a read that no write touched gives the copy's value, and that of any other the flick.
pub answer-untouched : (s : Setup) → IsGood s → (events : List Event) (x : Access) (u flick : Bool) → x.how ≡ EndRead u → touches s (past_of s events) x.owner x.reader x.field x.bit ≡ false →
    value_of (valued s (past_of s events) flick x).how ≡ (wires s (past_of s events) x.owner x.field x.bit x.reader).value
answer-untouched s g events x u flick h t = answer-read s g events x u flick h ∙ ap (λ b. cond b flick (wires s (past_of s events) x.owner x.field x.bit x.reader).value) t
