-- Which copies a process has open, by its own entries.
use Rattle.std.proofs.Common.{◌≡◌, ℕ, ◌+◌, ◌*◌, ◌%◌, ◌<◌, ◌==◌, ◌&&◌, Bool, true, false, cond, not, List, [], ◌∷◌, ◌++◌, Option, Some, None, nat_le, refl, sym, ap, subst, ◌∙◌, arith, true≢false, inl, inr}
use Rattle.std.proofs.lemmas.Bool.{cases_eq, ne_eqb, eq-eqb}
use Rattle.std.specs.Prelude.{option_map}
use Rattle.std.proofs.lemmas.Bool.Decides.{nat_tests}
use Rattle.safe_bit.specs.{Move, is_write_open}
use Rattle.safe_bit.specs.declared.Move.TheVariants.{BeginWrite, EndWrite, BeginRead, EndRead, Settle}
use Rattle.reader_copies.specs.Runs as copies
use Rattle.model.specs.{Access, Call, Entry, Field, Part, Past, Reading, Run, TornBit, Writing, access_at, access_of, bit_written, ended_with, enter, field_number, is_begin_of_write, is_last, is_over, last_write, made_with, moves_of, next_written, open_after, open_run, open_settled, open_written, part_after, place_after, same_bit, torn_at, torn_in, unfinished, value_begun, write_moved, written_at}
use Rattle.safe_number.specs.{NumberWrite}
use Rattle.model.proofs.Left.{bit_left, remaining-written, remaining-place, remaining-read, remaining-new, value-stays, value_at}
use Rattle.model.proofs.PlaceTurns.{same-write}
use Rattle.model.proofs.Ties.{Tie, over, writes, reads}
use Rattle.model.proofs.Turns.{parity, and_false, and_true}

-- a write of the bit is open
abbrev pub opened : Past → Access → Bool
opened past a = is_write_open (moves_of a past)

pub opened-entry : (a x : Access) (e : Entry) (past : Past) → e.access ≡ Some x → opened (e ∷ past) a ≡ open_after (opened past a) (same_bit a x) x.how
opened-entry a x e past h =
    ap (λ o. is_write_open (elim o as (λ _. List Move) [ None ↦ [] | Some b ↦ cond (same_bit a b) (b.how ∷ []) [] ] ++ moves_of a past)) h ∙ go (same_bit a x) x.how
  where
    go : (b : Bool) (m : Move) → is_write_open (cond b (m ∷ []) [] ++ moves_of a past) ≡ open_after (opened past a) b m
    go false m = refl
    go true (BeginWrite v) = refl
    go true EndWrite = refl
    go true (Settle v) = refl
    go true BeginRead = refl
    go true (EndRead v) = refl

-- the copy that the last write has left open
abbrev pub open_torn : ℕ → Option Access → Access → Bool
open_torn p None a = false
open_torn p (Some b) a = open_settled p b.field b.bit (record { made = made_with b; reader = 0; begun = false; value = None }) a

-- the open copies are those that the last write has left open, and it has left this torn bit to settle
pub record Torn (n p : ℕ) (mine : Past) (torn : Option TornBit) : Type 0 where
  pub opens : (a : Access) → opened mine a ≡ open_torn p (unfinished n (last_write mine)) a
  pub reader : (b : Access) → last_write mine ≡ Some b → b.reader < n
  pub remaining : option_map bit_left (unfinished n (last_write mine)) ≡ torn

-- where a bit is torn, this value was being written to it
abbrev pub IsBegun : Past → Option TornBit → Bool → Type 0
IsBegun mine torn v = (t : TornBit) → torn ≡ Some t → value_begun mine ≡ v

-- an access of a write: it begins where nothing is open, or ends the one that is
pub data Writes (was : Access → Bool) (x : Access) : Type 0 where
  begins : (v : Bool) → x.how ≡ BeginWrite v → ((a : Access) → was a ≡ false) → Writes was x
  ends : x.how ≡ EndWrite → ((a : Access) → was a ≡ same_bit a x) → Writes was x

pub write-kind : (p : ℕ) (f : Field) (bits : List Bool) (w : NumberWrite) → Writes (open_written p f bits w) (access_of p f (next_written bits w))
write-kind p f bits w = go (m % 2 == 0) refl
  where
    m : ℕ
    m = (bit_written bits w).made

    go : (b : Bool) → (m % 2 == 0) ≡ b → Writes (open_written p f bits w) (access_of p f (next_written bits w))
    go true h = begins (bit_written bits w).value (ap (λ b. cond b (BeginWrite (bit_written bits w).value) EndWrite) h)
        (λ a. ap (λ b. same_bit a (access_of p f (next_written bits w)) && b) (parity m ∙ ap not h) ∙ and_false (same_bit a (access_of p f (next_written bits w))))
    go false h = ends (ap (λ b. cond b (BeginWrite (bit_written bits w).value) EndWrite) h)
        (λ a. ap (λ b. same_bit a (access_of p f (next_written bits w)) && b) (parity m ∙ ap not h) ∙ and_true (same_bit a (access_of p f (next_written bits w))))

-- the last write after an access
last-of : (e : Entry) (mine : Past) (x : Access) (m : Move) → e.access ≡ Some x → x.how ≡ m →
    last_write (e ∷ mine) ≡ elim m as (λ _. Option Access) [ BeginWrite v ↦ Some x | EndWrite ↦ Some x | Settle v ↦ Some x | BeginRead ↦ last_write mine | EndRead v ↦ last_write mine ]
last-of e mine x m h k =
    ap (λ o. elim o as (λ _. Option Access) [
      | None ↦ last_write mine
      | Some a ↦ elim a.how as (λ _. Option Access) [ BeginWrite v ↦ Some a | EndWrite ↦ Some a | Settle v ↦ Some a | BeginRead ↦ last_write mine | EndRead v ↦ last_write mine ]
    ]) h
    ∙ ap (λ m. elim m as (λ _. Option Access) [ BeginWrite v ↦ Some x | EndWrite ↦ Some x | Settle v ↦ Some x | BeginRead ↦ last_write mine | EndRead v ↦ last_write mine ]) k

-- the value with which the last write began, after an access
pub value-of : (e : Entry) (mine : Past) (x : Access) (m : Move) → e.access ≡ Some x → x.how ≡ m →
    value_begun (e ∷ mine) ≡ elim m as (λ _. Bool) [ BeginWrite v ↦ v | EndWrite ↦ value_begun mine | Settle v ↦ value_begun mine | BeginRead ↦ value_begun mine | EndRead v ↦ value_begun mine ]
value-of e mine x m h k =
    ap (λ o. elim o as (λ _. Bool) [
      | None ↦ value_begun mine
      | Some a ↦ elim a.how as (λ _. Bool) [ BeginWrite v ↦ v | EndWrite ↦ value_begun mine | Settle v ↦ value_begun mine | BeginRead ↦ value_begun mine | EndRead v ↦ value_begun mine ]
    ]) h
    ∙ ap (λ m. elim m as (λ _. Bool) [ BeginWrite v ↦ v | EndWrite ↦ value_begun mine | Settle v ↦ value_begun mine | BeginRead ↦ value_begun mine | EndRead v ↦ value_begun mine ]) k

pub last-none : (e : Entry) (mine : Past) → e.access ≡ None → last_write (e ∷ mine) ≡ last_write mine
last-none e mine h = ap (λ o. elim o as (λ _. Option Access) [
  | None ↦ last_write mine
  | Some a ↦ elim a.how as (λ _. Option Access) [ BeginWrite v ↦ Some a | EndWrite ↦ Some a | Settle v ↦ Some a | BeginRead ↦ last_write mine | EndRead v ↦ last_write mine ]
]) h

reorder : (b o f r : Bool) → ((b && o && f) && r) ≡ (b && r && o && f)
reorder true true true true = refl
reorder true true true false = refl
reorder true true false true = refl
reorder true true false false = refl
reorder true false f true = refl
reorder true false f false = refl
reorder false o f r = refl

odd-same : (r k : ℕ) → (2 * r + 1 == 2 * k + 1) ≡ (k == r)
odd-same r k = elim (cases_eq k r) [
  | inl e ↦ eq-eqb (2 * r + 1) (2 * k + 1) (omega (arith, e)) ∙ sym (eq-eqb k r e)
  | inr d ↦ ne_eqb (2 * r + 1) (2 * k + 1) (λ u. d (omega (arith, u))) ∙ sym (ne_eqb k r d)
]

even-other : (r k : ℕ) → (2 * r + 2 == 2 * k + 1) ≡ false
even-other r k = ne_eqb (2 * r + 2) (2 * k + 1) (λ u. omega (arith, u))

zero-least : (k : ℕ) → nat_le 0 k ≡ true
zero-least k = grind (arith, nat_tests)

-- the copy that a settling finds open from the first one on
from_first : (made k : ℕ) → cond ((k == 0) && false) true (nat_le 0 k && copies.is_open_at made k) ≡ (made == 2 * k + 1)
from_first made k = ap (λ b. cond b true (nat_le 0 k && copies.is_open_at made k)) (and_false (k == 0)) ∙ ap (λ b. b && copies.is_open_at made k) (zero-least k)

begun-torn : (n p : ℕ) (x : Access) (v : Bool) (a : Access) → x.how ≡ BeginWrite v → x.owner ≡ p → open_torn p (unfinished n (Some x)) a ≡ same_bit a x
begun-torn n p x v a h o =
    ap (λ b. open_torn p (cond (not b && (x.reader + 1 == n)) None (Some x)) a) (ap is_begin_of_write h)
    ∙ ap (λ b. reg && b) (from_first (made_with x) a.reader ∙ ap (λ b. 2 * x.reader + cond b 1 2 == 2 * a.reader + 1) (ap is_begin_of_write h) ∙ odd-same x.reader a.reader)
    ∙ reorder (a.bit == x.bit) (a.owner == p) (field_number a.field == field_number x.field) (a.reader == x.reader)
    ∙ ap (λ q. (a.bit == x.bit) && (a.reader == x.reader) && (a.owner == q) && (field_number a.field == field_number x.field)) (sym o)
  where
    reg : Bool
    reg = (a.bit == x.bit) && (a.owner == p) && (field_number a.field == field_number x.field)

ended-torn : (n p : ℕ) (x : Access) (a : Access) → x.how ≡ EndWrite → open_torn p (unfinished n (Some x)) a ≡ false
ended-torn n p x a h = ap (λ b. open_torn p (cond (not b && (x.reader + 1 == n)) None (Some x)) a) (ap is_begin_of_write h) ∙ go (x.reader + 1 == n)
  where
    reg : Bool
    reg = (a.bit == x.bit) && (a.owner == p) && (field_number a.field == field_number x.field)

    go : (b : Bool) → open_torn p (cond b None (Some x)) a ≡ false
    go true = refl
    go false = ap (λ b. reg && b) (from_first (made_with x) a.reader ∙ ap (λ b. 2 * x.reader + cond b 1 2 == 2 * a.reader + 1) (ap is_begin_of_write h) ∙ even-other x.reader a.reader) ∙ and_false reg

-- after a write
pub torn-write : (n p : ℕ) (mine : Past) (e : Entry) (x : Access) (was : Access → Bool) (torn : Option TornBit) → option_map bit_left (unfinished n (Some x)) ≡ torn →
    e.access ≡ Some x → x.owner ≡ p → x.reader < n → ((a : Access) → opened mine a ≡ was a) → Writes was x → Torn n p (e ∷ mine) torn
torn-write n p mine e x was torn l h o r w (begins v k none) = record {
  remaining = ap (λ y. option_map bit_left (unfinished n y)) (last-of e mine x (BeginWrite v) h k) ∙ l;
  opens = λ a. opened-entry a x e mine h ∙ ap (λ m. open_after (opened mine a) (same_bit a x) m) k ∙ ap (λ b. cond (same_bit a x) true b) (w a ∙ none a) ∙ it (same_bit a x)
      ∙ sym (ap (λ l. open_torn p (unfinished n l) a) (last-of e mine x (BeginWrite v) h k) ∙ begun-torn n p x v a k o);
  reader = λ b u. let f : Some x ≡ Some b = sym (last-of e mine x (BeginWrite v) h k) ∙ u in let g : x ≡ b = cc in subst (λ (y : Access). y.reader < n) g r;
}
  where
    it : (b : Bool) → cond b true false ≡ b
    it true = refl
    it false = refl
torn-write n p mine e x was torn l h o r w (ends k one) = record {
  remaining = ap (λ y. option_map bit_left (unfinished n y)) (last-of e mine x EndWrite h k) ∙ l;
  opens = λ a. opened-entry a x e mine h ∙ ap (λ m. open_after (opened mine a) (same_bit a x) m) k ∙ ap (λ b. cond (same_bit a x) false b) (w a ∙ one a) ∙ none (same_bit a x)
      ∙ sym (ap (λ l. open_torn p (unfinished n l) a) (last-of e mine x EndWrite h k) ∙ ended-torn n p x a k);
  reader = λ b u. let f : Some x ≡ Some b = sym (last-of e mine x EndWrite h k) ∙ u in let g : x ≡ b = cc in subst (λ (y : Access). y.reader < n) g r;
}
  where
    none : (b : Bool) → cond b false b ≡ false
    none true = refl
    none false = refl

-- after an entry that writes nothing
pub torn-kept : (n p : ℕ) (mine : Past) (e : Entry) (torn : Option TornBit) → ((a : Access) → opened (e ∷ mine) a ≡ opened mine a) → last_write (e ∷ mine) ≡ last_write mine → Torn n p mine torn → Torn n p (e ∷ mine) torn
torn-kept n p mine e torn same last t = record {
  remaining = ap (λ l. option_map bit_left (unfinished n l)) last ∙ t.remaining;
  opens = λ a. same a ∙ t.opens a ∙ ap (λ l. open_torn p (unfinished n l) a) (sym last);
  reader = λ b u. t.reader b (sym last ∙ u);
}

read-keeps : (a x : Access) (e : Entry) (mine : Past) (begun u : Bool) → e.access ≡ Some x → x.how ≡ cond begun (EndRead u) BeginRead → opened (e ∷ mine) a ≡ opened mine a
read-keeps a x e mine begun u h k = opened-entry a x e mine h ∙ ap (λ m. open_after (opened mine a) (same_bit a x) m) k ∙ go (same_bit a x) begun
  where
    go : (b d : Bool) → open_after (opened mine a) b (cond d (EndRead u) BeginRead) ≡ opened mine a
    go true true = refl
    go true false = refl
    go false d = refl

-- after an access at a place
pub torn-place : (c : Call) (mine : Past) (e : Entry) (part : Part) (run : Run) (made : ℕ) (bits : List Bool) (v u : Bool) → is_over part ≡ false → Tie c part run made bits →
    e.access ≡ Some (ended_with v (access_at c part run)) → ((a : Access) → opened mine a ≡ open_run c part run a) → Torn c.setup.processes c.process mine (torn_at c (record { part = part; run = run })) →
    Torn c.setup.processes c.process (e ∷ mine) (torn_at c (place_after c (record { part = part; run = run }) u))
torn-place c mine e part run made bits v u o (over h) k w t = absurd (true≢false (sym h ∙ o))
torn-place c mine e part (Writing w) made bits v u o (writes r q tie) k same t =
    let going : (bit_written (written_at c part).1 w).made < 2 * c.setup.processes = tie.goes.going in
    torn-write c.setup.processes c.process mine e (access_of c.process (written_at c part).0 (next_written (written_at c part).1 w)) (open_run c part (Writing w)) _
    (remaining-written c.setup.processes c.process (written_at c part).0 (written_at c part).1 w ∙ remaining-place c part w u tie.goes.inside)
    (k ∙ ap Some (same-write v c.process (written_at c part).0 w.bit (bit_written (written_at c part).1 w))) refl (omega arith) same
    (write-kind c.process (written_at c part).0 (written_at c part).1 w)
torn-place c mine e part (Reading bits begun) made bits' v u o (reads r tie) k same t = subst (Torn c.setup.processes c.process (e ∷ mine)) (sym (remaining-read c part bits begun u)) (go begun k)
  where
    go : (b : Bool) → e.access ≡ Some (ended_with v (access_at c part (Reading bits b))) → Torn c.setup.processes c.process (e ∷ mine) None
    go true k = torn-kept c.setup.processes c.process mine e None (λ a. read-keeps a (ended_with v (access_at c part (Reading bits true))) e mine true v k refl) (last-of e mine (ended_with v (access_at c part (Reading bits true))) (EndRead v) k refl) t
    go false k = torn-kept c.setup.processes c.process mine e None (λ a. read-keeps a (ended_with v (access_at c part (Reading bits false))) e mine false v k refl) (last-of e mine (ended_with v (access_at c part (Reading bits false))) BeginRead k refl) t

itself : (x : Access) → same_bit x x ≡ true
itself x = λ i. one x.bit i && one x.reader i && one x.owner i && one (field_number x.field) i
  where
    one : (k : ℕ) → (k == k) ≡ true
    one k = eq-eqb k k refl

-- a write that is open has torn a bit
open-torn : (n p : ℕ) (mine : Past) (torn : Option TornBit) (x : Access) → Torn n p mine torn → opened mine x ≡ true → (t : TornBit) × (torn ≡ Some t)
open-torn n p mine torn x t o = go (unfinished n (last_write mine)) (sym (t.opens x) ∙ o) t.remaining
  where
    go : (y : Option Access) → open_torn p y x ≡ true → option_map bit_left y ≡ torn → (t : TornBit) × (torn ≡ Some t)
    go None h l = absurd (true≢false (sym h))
    go (Some b) h l = (bit_left b, sym l)

-- after an access of a write, the value that is being written to a torn bit is the write's
pub begun-write : (n p : ℕ) (mine : Past) (e : Entry) (f : Field) (bits : List Bool) (w : NumberWrite) → e.access ≡ Some (access_of p f (next_written bits w)) →
    ((a : Access) → opened mine a ≡ open_written p f bits w a) → Torn n p mine (torn_in f w) → IsBegun mine (torn_in f w) (bit_written bits w).value →
    IsBegun (e ∷ mine) (torn_in f (write_moved n bits w)) (bit_written bits (write_moved n bits w)).value
begun-write n p mine e f bits w h same t b now l = go (m % 2 == 0) refl ∙ sym (value-stays n f bits w now l)
  where
    m : ℕ
    m = (bit_written bits w).made

    v : Bool
    v = (bit_written bits w).value

    x : Access
    x = access_of p f (next_written bits w)

    go : (even : Bool) → (m % 2 == 0) ≡ even → value_begun (e ∷ mine) ≡ v
    go true k = value-of e mine x (BeginWrite v) h (ap (λ b. cond b (BeginWrite v) EndWrite) k)
    go false k =
        let odd : opened mine x ≡ true = same x ∙ ap (λ d. d && (m % 2 == 1)) (itself x) ∙ parity m ∙ ap not k in
        let was = open-torn n p mine (torn_in f w) x t odd in
        value-of e mine x EndWrite h (ap (λ b. cond b (BeginWrite v) EndWrite) k) ∙ b was.0 was.1

-- an access at a place keeps the value with which the write of the torn bit began
pub begun-place : (c : Call) (mine : Past) (e : Entry) (part : Part) (run : Run) (made : ℕ) (bits : List Bool) (v u : Bool) → is_over part ≡ false → Tie c part run made bits →
    e.access ≡ Some (ended_with v (access_at c part run)) → ((a : Access) → opened mine a ≡ open_run c part run a) → Torn c.setup.processes c.process mine (torn_at c (record { part = part; run = run })) →
    IsBegun mine (torn_at c (record { part = part; run = run })) (value_at c (record { part = part; run = run })) →
    IsBegun (e ∷ mine) (torn_at c (place_after c (record { part = part; run = run }) u)) (value_at c (place_after c (record { part = part; run = run }) u))
begun-place c mine e part run made bits v u o (over h) k w t b now l = absurd (true≢false (sym h ∙ o))
begun-place c mine e part (Writing w) made bits v u o (writes r q tie) k same t b now l = go (is_last c part (Writing w)) now l
  where
    f : Field
    f = (written_at c part).0

    new : List Bool
    new = (written_at c part).1

    next : IsBegun (e ∷ mine) (torn_in f (write_moved c.setup.processes new w)) (bit_written new (write_moved c.setup.processes new w)).value
    next = begun-write c.setup.processes c.process mine e f new w (k ∙ ap Some (same-write v c.process f w.bit (bit_written new w))) same t b

    go : (last : Bool) → IsBegun (e ∷ mine) (torn_at c (cond last (enter c (part_after c part [])) (record { part = part; run = Writing (write_moved c.setup.processes new w) })))
        (value_at c (cond last (enter c (part_after c part [])) (record { part = part; run = Writing (write_moved c.setup.processes new w) })))
    go true t l = let none : None ≡ Some t = sym (remaining-new c (part_after c part [])) ∙ l in cc
    go false t l = next t l
begun-place c mine e part (Reading bits begun) made bits' v u o (reads r tie) k same t b now l = let none : None ≡ Some now = sym (remaining-read c part bits begun u) ∙ l in cc
