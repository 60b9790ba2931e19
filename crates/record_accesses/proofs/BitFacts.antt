-- The state of a bit after one more entry.
use Rattle.std.proofs.Common.{◌≡◌, ℕ, Bool, true, false, cond, List, [], ◌∷◌, ◌++◌, Option, None, Some, is_some, refl, sym, ap, ◌∙◌}
use Rattle.plain_store.specs.{Setup}
use Rattle.model.specs.safe_bit.{Move, gives_value, is_write_open, last_begun, last_written}
use Rattle.model.specs.safe_bit.declared.Move.TheVariants.{BeginWrite, EndWrite, BeginRead, EndRead, Settle}
use Rattle.model.specs.{Access, Mark, Past, move_on, moves_of, opening_bit, same_bit}
use Rattle.record_accesses.specs.{BitState, bit_after, bit_of, entry_with, new_bit, writer_of, writer_with}
use Rattle.record_accesses.proofs.SameBits.{bare, same-bare, same-refl}

-- A bit that has one more move, or none.

abbrev left : Bool → List Move → Option ℕ → BitState
left opening moves w = record { begun = last_begun opening moves; written = last_written opening moves; writer = w }

with-move : (p : ℕ) (how : Move) (opening : Bool) (moves : List Move) (w : Option ℕ) (t : Bool) →
    left opening (cond t (how ∷ []) [] ++ moves) (writer_with p (cond t (how ∷ []) []) w) ≡ cond t (bit_after p how (left opening moves w)) (left opening moves w)
with-move p (BeginWrite v) opening moves w true = refl
with-move p EndWrite opening moves w true = refl
with-move p BeginRead opening moves w true = refl
with-move p (EndRead v) opening moves w true = refl
with-move p (Settle v) opening moves w true = refl
with-move p how opening moves w false = refl

pub bit-step : (s : Setup) (past : Past) (p : ℕ) (marks : List Mark) (a d : Access) →
    bit_of s (entry_with p (Some a) marks ∷ past) d ≡ cond (same_bit d a) (bit_after p a.how (bit_of s past d)) (bit_of s past d)
bit-step s past p marks a d = with-move p a.how (opening_bit s d) (moves_of d past) (writer_of d past) (same_bit d a)

-- One bit has one state.

writer-bare : (d : Access) (past : Past) → writer_of d past ≡ writer_of (bare d) past
writer-bare d [] = refl
writer-bare d (e ∷ past) = ap (writer_with e.process (move_on d e)) (writer-bare d past)

pub bit-cong : (s : Setup) (past : Past) (d a : Access) → same_bit d a ≡ true → bit_of s past d ≡ bit_of s past a
bit-cong s past d a same = bit-bare d ∙ ap (bit_of s past) (same-bare d a same) ∙ sym (bit-bare a)
  where
    bit-bare : (d : Access) → bit_of s past d ≡ bit_of s past (bare d)
    bit-bare d = λ i. record { begun = last_begun (opening_bit s d) (moves_of d past); written = last_written (opening_bit s d) (moves_of d past); writer = writer-bare d past i }

-- The bit of an access after it.
pub bit-made : (s : Setup) (past : Past) (p : ℕ) (marks : List Mark) (a : Access) → bit_of s (entry_with p (Some a) marks ∷ past) a ≡ bit_after p a.how (bit_of s past a)
bit-made s past p marks a = bit-step s past p marks a a ∙ ap (λ t. cond t (bit_after p a.how (bit_of s past a)) (bit_of s past a)) (same-refl a)

-- A move that does not write leaves a bit that was not written as it is.
pub unwritten : (p : ℕ) (how : Move) (opening : Bool) → gives_value how ≡ false → bit_after p how (new_bit opening) ≡ new_bit opening
unwritten p (BeginWrite v) opening h = absurd (cc)
unwritten p EndWrite opening h = refl
unwritten p BeginRead opening h = refl
unwritten p (EndRead v) opening h = refl
unwritten p (Settle v) opening h = absurd (cc)

-- A process has a write of a bit open if the safe rule finds one open.

writer-move : (p : ℕ) (how : Move) (moves : List Move) (w : Option ℕ) (t : Bool) → is_some w ≡ is_write_open moves →
    is_some (writer_with p (cond t (how ∷ []) []) w) ≡ is_write_open (cond t (how ∷ []) [] ++ moves)
writer-move p (BeginWrite v) moves w true h = refl
writer-move p EndWrite moves w true h = refl
writer-move p BeginRead moves w true h = h
writer-move p (EndRead v) moves w true h = h
writer-move p (Settle v) moves w true h = refl
writer-move p how moves w false h = h

pub writer-open : (a : Access) (past : Past) → is_some (writer_of a past) ≡ is_write_open (moves_of a past)
writer-open a [] = refl
writer-open a (e ∷ past) = by e.access (writer-open a past)
  where
    move_in : Option Access → List Move
    move_in o = elim o as (λ _. List Move) [ None ↦ [] | Some x ↦ cond (same_bit a x) (x.how ∷ []) [] ]

    by : (o : Option Access) → is_some (writer_of a past) ≡ is_write_open (moves_of a past) → is_some (writer_with e.process (move_in o) (writer_of a past)) ≡ is_write_open (move_in o ++ moves_of a past)
    by None h = h
    by (Some x) h = writer-move e.process x.how (moves_of a past) (writer_of a past) (same_bit a x) h
