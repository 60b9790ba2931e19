-- A read that no write of its register meets gives the register's bits.
use Rattle.std.specs.Prelude.{◌≡◌, refl, ℕ, ◌<◌, Bool, true, false, List, [], ◌∷◌, ◌++◌, length, flat_map, slice_index_or}
use Rattle.std.proofs.Common.{sym, ◌∙◌, ap, append_assoc}
use Rattle.model.specs.{AllReads, Field, HasBits, Past, begins_read, copy, move_on, moves_of, opening_bit}
use Rattle.safe_bit.specs.{Move, is_of_write, is_write_open, last_written, read_value}
use Rattle.safe_bit.specs.declared.Move.TheVariants.{BeginWrite, EndWrite, BeginRead, EndRead, Settle}
use Rattle.reader_copies.specs.{IsRead}
use Rattle.plain_store.specs.{Setup}

abbrev pub NoWrites : List Move → Type 0
NoWrites [] = Unit {0}
NoWrites (m ∷ ms) = (is_of_write m ≡ false) × NoWrites ms

-- a move that begins or ends a read writes nothing
pub read-no_write : (m : Move) → IsRead m → is_of_write m ≡ false
read-no_write (BeginWrite v) h = absurd h
read-no_write EndWrite h = absurd h
read-no_write BeginRead h = refl
read-no_write (EndRead v) h = refl
read-no_write (Settle v) h = absurd h

pub reads-no_writes : (ms : List Move) → AllReads ms → NoWrites ms
reads-no_writes [] h = tt
reads-no_writes (m ∷ ms) h = (read-no_write m h.0, reads-no_writes ms h.1)

pub open-reads : (later ms : List Move) → NoWrites later → is_write_open (later ++ ms) ≡ is_write_open ms
open-reads [] ms n = refl
open-reads (BeginRead ∷ later) ms n = open-reads later ms n.1
open-reads (EndRead v ∷ later) ms n = open-reads later ms n.1
open-reads (_ ∷ later) ms n = let e = n.0 in cc

pub written-reads : (o : Bool) (later ms : List Move) → NoWrites later → last_written o (later ++ ms) ≡ last_written o ms
written-reads o [] ms n = refl
written-reads o (BeginRead ∷ later) ms n = written-reads o later ms n.1
written-reads o (EndRead v ∷ later) ms n = written-reads o later ms n.1
written-reads o (_ ∷ later) ms n = let e = n.0 in cc

-- a read that began since, with no write open then and none begun, gives what was last written
pub whole : (o flick : Bool) (later ms : List Move) → NoWrites later → begins_read later ≡ true → is_write_open ms ≡ false → read_value o (later ++ ms) flick ≡ last_written o ms
whole o flick [] ms n b w = cc
whole o flick (BeginRead ∷ later) ms n b w = rw (open-reads later ms n.1, w) (written-reads o later ms n.1)
whole o flick (EndRead v ∷ later) ms n b w = whole o flick later ms n.1 b w
whole o flick (_ ∷ later) ms n b w = let e = n.0 in cc

pub flat_map-append : {X Y : Type 0} → (f : X → List Y) (xs ys : List X) → flat_map f (xs ++ ys) ≡ flat_map f xs ++ flat_map f ys
flat_map-append f [] ys = refl
flat_map-append f (x ∷ xs) ys = ap (λ l. f x ++ l) (flat_map-append f xs ys) ∙ sym (append_assoc (f x) (flat_map f xs) (flat_map f ys))

-- each bit's read that began since then gives that bit, if no write of the bit began since
pub whole_bit : (s : Setup) (later past : Past) (owner : ℕ) (field : Field) (reader : ℕ) (bits : List Bool) (flick : Bool) → HasBits s past owner field reader bits →
    (k : ℕ) → k < length bits → NoWrites (moves_of (copy owner field reader k) later) → begins_read (moves_of (copy owner field reader k) later) ≡ true →
    read_value (opening_bit s (copy owner field reader k)) (moves_of (copy owner field reader k) (later ++ past)) flick ≡ slice_index_or bits k false
whole_bit s later past owner field reader bits flick h k l n b =
    ap (λ ms. read_value (opening_bit s (copy owner field reader k)) ms flick) (flat_map-append (move_on (copy owner field reader k)) later past)
    ∙ whole (opening_bit s (copy owner field reader k)) flick (moves_of (copy owner field reader k) later) (moves_of (copy owner field reader k) past) n b (h k l).0
    ∙ (h k l).1
