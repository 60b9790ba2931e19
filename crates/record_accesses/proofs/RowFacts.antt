-- The rows of bits, and their states, after one more entry.
use Rattle.std.proofs.Common.{◌≡◌, ◌≢◌, ℕ, ◌+◌, ◌<◌, ◌≤◌, nat_le, Bool, not, ◌&&◌, ◌||◌, true, false, cond, List, [], ◌∷◌, ◌++◌, Option, None, Some, is_some, option_and_then, get_or, length, position, slice_set, if◌then◌else◌, refl, sym, ap, ◌∙◌, subst, inl, inr, eqb, eq-eqb, true≢false, arith, length-append, get_or-set_other, get_or-set_same}
use Rattle.std.proofs.Math.Seq.{get_or-append_seam}
use Rattle.std.proofs.lemmas.Bool.{cases_Bool}
use Rattle.std.proofs.lemmas.Bool.Decides.{nat_tests}
use Rattle.std.proofs.lemmas.Grind.{common_steps}
use Rattle.std.proofs.lemmas.List.Folds.{position_or_len_push}
use Rattle.std.proofs.lemmas.List.Sums.{prefix_len-le-length}
use Rattle.std.specs.List.{list_any, position_or_len}
use Rattle.std.proofs.lemmas.List.{get_or_append_left}
use Rattle.std.proofs.lemmas.List.Quantifiers.{position-Some}
use Rattle.indexmap.specs.IndexSet.{insert_key}
use Rattle.laws.specs.{IsThere}
use Rattle.plain_store.specs.{Setup}
use Rattle.model.specs.safe_bit.{Move, gives_value, is_of_write}
use Rattle.model.specs.safe_bit.declared.Move.TheVariants.{BeginWrite, EndWrite, BeginRead, EndRead, Settle}
use Rattle.model.specs.{Access, Mark, Past, opening_bit, same_bit}
use Rattle.record_accesses.specs.{BitChange, BitState, BitsState, HasBits, WaveCount, bit_after, bit_of, bits_taken, change_in_row, change_of, entry_with, is_one_bit, new_bit, row_in, rows_after, rows_with, state_at, waves_after, waves_since, with_last, written_bits}
use Rattle.record_accesses.proofs.BitFacts.{bit-cong, bit-made, bit-step, unwritten}
use Rattle.record_accesses.proofs.SameBits.{bare-same, other-sym, same-bare, same-refl}

-- Rows.

pub row-within : (rows : List Access) (a : Access) (i : ℕ) → row_in rows a ≡ Some i → i < length rows
row-within rows a i h = (position-Some (λ b. same_bit b a) rows i a h).0

-- bits of one row are one bit
pub row-same : (rows : List Access) (a d : Access) (i : ℕ) → row_in rows a ≡ Some i → row_in rows d ≡ Some i → same_bit a d ≡ true
row-same rows a d i h g =
    let first = (position-Some (λ b. same_bit b a) rows i a h).1 in
    let second = (position-Some (λ b. same_bit b d) rows i a g).1 in
    let b : Access = get_or rows i a in
    bare-same a d (sym (same-bare b a first) ∙ same-bare b d second)

pub row-cong : (rows : List Access) (d a : Access) → same_bit d a ≡ true → row_in rows d ≡ row_in rows a
row-cong rows d a same = ap (row_in rows) (same-bare d a same)

last-where : (p : Access → Bool) (rows : List Access) (a : Access) → position p rows ≡ None → p a ≡ true → position p (rows ++ a ∷ []) ≡ Some (length rows)
last-where p rows a none h =
    let most : position_or_len p rows ≤ length rows = prefix_len-le-length (λ x. not (p x)) rows in
    let full : position_or_len p rows ≡ length rows = grind (arith, common_steps, most, none) in
    let same : eqb (position_or_len p rows) (length rows) ≡ true = eq-eqb (position_or_len p rows) (length rows) full in
    let push : position_or_len p (rows ++ a ∷ []) ≡ length rows + 0 =
    position_or_len_push p rows a ∙ (λ i. cond (same i) (length rows + cond (h i) 0 1) (position_or_len p rows)) in
    let long = length-append rows (a ∷ []) in
    grind (arith, common_steps)

last-others : (p : Access → Bool) (rows : List Access) (a : Access) → p a ≡ false → position p (rows ++ a ∷ []) ≡ position p rows
last-others p rows a h = grind (arith, common_steps)

pub last-same : (rows : List Access) (a : Access) → row_in rows a ≡ None → row_in (rows ++ a ∷ []) a ≡ Some (length rows)
last-same rows a none = last-where (λ b. same_bit b a) rows a none (same-refl a)

last-other : (rows : List Access) (a d : Access) → same_bit a d ≡ false → row_in (rows ++ a ∷ []) d ≡ row_in rows d
last-other rows a d other = last-others (λ b. same_bit b d) rows a other

-- A set of bits takes in a new one after the others.

none-any : (p : Access → Bool) (rows : List Access) → position p rows ≡ None → list_any p rows ≡ false
none-any p [] h = refl
none-any p (x ∷ rows) h = by (p x) refl (none-any p rows)
  where
    by : (t : Bool) → p x ≡ t → (position p rows ≡ None → list_any p rows ≡ false) → (p x || list_any p rows) ≡ false
    by true is rest = grind (arith, common_steps, is, h)
    by false is rest = ap (λ t. t || list_any p rows) is ∙ rest (grind (arith, common_steps, is, h))

pub new-last : (rows : List Access) (a : Access) → row_in rows a ≡ None → insert_key is_one_bit rows a ≡ rows ++ a ∷ []
new-last rows a none = ap (λ (t : Bool). if t then rows else rows ++ a ∷ []) (none-any (λ b. same_bit b a) rows none)

pub added-keys : (bits mid rows : List Access) (a k : Access) → mid ≡ bits → k ≡ a → rows ≡ insert_key is_one_bit mid k → row_in bits a ≡ None → rows ≡ bits ++ a ∷ []
added-keys bits mid rows a k still same is none = is ∙ (λ i. insert_key is_one_bit (still i) (same i)) ∙ new-last bits a none

abbrev pub bits_by : List Access → List BitState → BitsState
bits_by names states = record { names = names; states = states }

pub bits-added : (old now : BitsState) (names : List Access) (states : List BitState) (a : Access) (state : BitState) → old ≡ now → gives_value a.how ≡ true →
    names ≡ old.names ++ a ∷ [] → states ≡ old.states ++ state ∷ [] → bits_by names states ≡ bits_taken None a state now
bits-added old now names states a state same writing more next =
    (λ i. bits_by (more i) (next i))
    ∙ ap (λ (b : BitsState). bits_by (b.names ++ a ∷ []) (b.states ++ state ∷ [])) same
    ∙ ap (λ t. cond t (bits_by (now.names ++ a ∷ []) (now.states ++ state ∷ [])) now) (sym writing)

pub long-added : (names more : List Access) (states next : List BitState) (a : Access) (state : BitState) → length states ≡ length names → more ≡ names ++ a ∷ [] → next ≡ states ++ state ∷ [] → length next ≡ length more
long-added names more states next a state long is are =
    ap length are ∙ length-append states (state ∷ []) ∙ ap (λ n. n + 1) long ∙ sym (length-append names (a ∷ [])) ∙ sym (ap length is)

-- Rows of waves.

-- A list that stays in both cases stays.
same-either : (c : Bool) (rows : List Access) → cond c rows rows ≡ rows
same-either true rows = refl
same-either false rows = refl

nothing-counts : (b t : Bool) → (b && (t && false)) ≡ false
nothing-counts true true = refl
nothing-counts true false = refl
nothing-counts false t = refl

writes-alter : (how : Move) → gives_value how ≡ true → is_of_write how ≡ true
writes-alter (BeginWrite v) h = refl
writes-alter EndWrite h = absurd (cc)
writes-alter BeginRead h = absurd (cc)
writes-alter (EndRead v) h = absurd (cc)
writes-alter (Settle v) h = refl

-- Where all entries count, an access gives a row to the bits that it adds to those written.
waves-by : (rows : List Access) (a : Access) (o : Option ℕ) → row_in rows a ≡ o → (w b t : Bool) → (w ≡ true → b ≡ true) → t ≡ true →
    cond (b && (t && is_some (row_in (cond w (with_last o a rows) rows) a))) (with_last o a rows) rows ≡ cond w (with_last o a rows) rows
waves-by rows a (Some row) is w b t writing all =
    same-either (b && (t && is_some (row_in (cond w rows rows) a))) rows ∙ sym (same-either w rows)
waves-by rows a None is true b t writing all =
    λ i. cond (writing refl i && (all i && is_some (last-same rows a is i))) (rows ++ a ∷ []) rows
waves-by rows a None is false b t writing all =
    ap (λ (o : Option ℕ). cond (b && (t && is_some o)) (rows ++ a ∷ []) rows) is
    ∙ ap (λ c. cond c (rows ++ a ∷ []) rows) (nothing-counts b t)

from-zero : (number : ℕ) → nat_le 0 number ≡ true
from-zero number = grind (arith, nat_tests)

pub waves-written : (past : Past) → waves_since 0 past ≡ written_bits past
waves-written [] = refl
waves-written (e ∷ past) = by e.access (waves-written past)
  where
    by : (o : Option Access) → waves_since 0 past ≡ written_bits past → waves_after 0 (length past) (rows_after o (written_bits past)) o (waves_since 0 past) ≡ rows_after o (written_bits past)
    by None same = same
    by (Some a) same =
        ap (λ (rows : List Access). waves_after 0 (length past) (rows_with a (written_bits past)) (Some a) rows) same
        ∙ waves-by (written_bits past) a (row_in (written_bits past) a) refl (gives_value a.how) (is_of_write a.how) (nat_le 0 (length past)) (writes-alter a.how) (from-zero (length past))

-- A move that does not alter its bit changes no wave, whatever its row.
change-either : (b : Bool) (f : ℕ → Option BitChange) (row : Option ℕ) → cond b (option_and_then f (cond b row None)) None ≡ cond b (option_and_then f row) None
change-either true f row = refl
change-either false f row = refl

pub change-row : (count : WaveCount) (row : Option ℕ) (how : Move) (old value was_open is_open : Bool) →
    change_of count (cond (is_of_write how) row None) how old value was_open is_open ≡ change_of count row how old value was_open is_open
change-row count row how old value was_open is_open = change-either (is_of_write how) (change_in_row count old value was_open is_open) row

-- An entry without an access.
pub bits-still : (s : Setup) (b : BitsState) (past : Past) (p : ℕ) (marks : List Mark) → HasBits s b past → HasBits s b (entry_with p None marks ∷ past)
bits-still s b past p marks has = record { names = has.names; states = λ a there. has.states a there }

-- An entry with an access.
module _ (s : Setup) (b : BitsState) (past : Past) (p : ℕ) (marks : List Mark) (a : Access) (long : length b.states ≡ length b.names) (there : IsThere s a) (has : HasBits s b past) where
  abbrev after : BitState
  after = bit_after p a.how (state_at b (row_in b.names a) (opening_bit s a))

  pub before-is : state_at b (row_in b.names a) (opening_bit s a) ≡ bit_of s past a
  before-is = has.states a there

  -- its state after the entry
  pub after-is : after ≡ bit_of s (entry_with p (Some a) marks ∷ past) a
  after-is = ap (bit_after p a.how) before-is ∙ sym (bit-made s past p marks a)

  -- an other bit
  other-bit : (d : Access) → IsThere s d → same_bit a d ≡ false → state_at b (row_in b.names d) (opening_bit s d) ≡ bit_of s (entry_with p (Some a) marks ∷ past) d
  other-bit d exists other = has.states d exists ∙ sym (bit-step s past p marks a d ∙ ap (λ t. cond t (bit_after p a.how (bit_of s past d)) (bit_of s past d)) (other-sym a d other))

  -- the same bit
  this-bit : (d : Access) → same_bit a d ≡ true → after ≡ bit_of s (entry_with p (Some a) marks ∷ past) d
  this-bit d same = after-is ∙ bit-cong s (entry_with p (Some a) marks ∷ past) a d same

  -- where the bit has a row
  set-other : (row : ℕ) → row_in b.names a ≡ Some row → (d : Access) → same_bit a d ≡ false → (o : Option ℕ) → row_in b.names d ≡ o → (opening : Bool) →
      state_at (record { names = b.names; states = slice_set b.states row after }) o opening ≡ state_at b o opening
  set-other row is d other None at opening = refl
  set-other row is d other (Some j) at opening =
      let apart : j ≢ row = λ h. true≢false (sym (row-same b.names a d row is (at ∙ ap Some h)) ∙ other) in
      get_or-set_other b.states row j after (new_bit opening) apart

  states-set : (row : ℕ) → row_in b.names a ≡ Some row → (d : Access) → IsThere s d →
      state_at (record { names = b.names; states = slice_set b.states row after }) (row_in b.names d) (opening_bit s d) ≡ bit_of s (entry_with p (Some a) marks ∷ past) d
  states-set row is d exists = elim (cases_Bool (same_bit a d)) [
    | inl same ↦
        let within : row < length b.states = subst (λ n. row < n) (sym long) (row-within b.names a row is) in
        ap (λ o. state_at (record { names = b.names; states = slice_set b.states row after }) o (opening_bit s d)) (sym (row-cong b.names a d same) ∙ is)
        ∙ get_or-set_same b.states row after (new_bit (opening_bit s d)) within
        ∙ this-bit d same
    | inr other ↦ set-other row is d other (row_in b.names d) refl (opening_bit s d) ∙ other-bit d exists other
  ]

  -- where it gets one
  more-other : (d : Access) → (o : Option ℕ) → row_in b.names d ≡ o → (opening : Bool) →
      state_at (record { names = b.names ++ a ∷ []; states = b.states ++ after ∷ [] }) o opening ≡ state_at b o opening
  more-other d None at opening = refl
  more-other d (Some j) at opening = get_or_append_left b.states (after ∷ []) (new_bit opening) j (subst (λ n. j < n) (sym long) (row-within b.names d j at))

  states-more : row_in b.names a ≡ None → (d : Access) → IsThere s d →
      state_at (record { names = b.names ++ a ∷ []; states = b.states ++ after ∷ [] }) (row_in (b.names ++ a ∷ []) d) (opening_bit s d) ≡ bit_of s (entry_with p (Some a) marks ∷ past) d
  states-more none d exists = elim (cases_Bool (same_bit a d)) [
    | inl same ↦
        ap (λ o. state_at (record { names = b.names ++ a ∷ []; states = b.states ++ after ∷ [] }) o (opening_bit s d)) (sym (row-cong (b.names ++ a ∷ []) a d same) ∙ last-same b.names a none ∙ ap Some (sym long))
        ∙ get_or-append_seam b.states after [] (new_bit (opening_bit s d))
        ∙ this-bit d same
    | inr other ↦
        ap (λ o. state_at (record { names = b.names ++ a ∷ []; states = b.states ++ after ∷ [] }) o (opening_bit s d)) (last-other b.names a d other)
        ∙ more-other d (row_in b.names d) refl (opening_bit s d)
        ∙ other-bit d exists other
  ]

  -- where it gets none
  states-none : row_in b.names a ≡ None → gives_value a.how ≡ false → (d : Access) → IsThere s d → state_at b (row_in b.names d) (opening_bit s d) ≡ bit_of s (entry_with p (Some a) marks ∷ past) d
  states-none none unwritten_it d exists = elim (cases_Bool (same_bit a d)) [
    | inl same ↦
        let open_at : state_at b (row_in b.names a) (opening_bit s a) ≡ new_bit (opening_bit s a) = ap (λ o. state_at b o (opening_bit s a)) none in
        has.states d exists ∙ sym (bit-cong s past a d same) ∙ sym before-is ∙ open_at
        ∙ sym (unwritten p a.how (opening_bit s a) unwritten_it) ∙ ap (bit_after p a.how) (sym open_at)
        ∙ this-bit d same
    | inr other ↦ other-bit d exists other
  ]

  taken-by : (o : Option ℕ) → row_in b.names a ≡ o → (w : Bool) → gives_value a.how ≡ w → HasBits s (bits_taken o a after b) (entry_with p (Some a) marks ∷ past)
  taken-by (Some row) is true w = record {
    names = has.names ∙ sym (ap (λ w. cond w (with_last (row_in (written_bits past) a) a (written_bits past)) (written_bits past)) w ∙ ap (λ (rows : List Access). with_last (row_in rows a) a rows) (sym has.names) ∙ ap (λ o. with_last o a b.names) is ∙ has.names);
    states = states-set row is;
  }
  taken-by (Some row) is false w = record {
    names = has.names ∙ sym (ap (λ w. cond w (with_last (row_in (written_bits past) a) a (written_bits past)) (written_bits past)) w);
    states = states-set row is;
  }
  taken-by None is true w = subst (λ w. HasBits s (cond w (record { names = b.names ++ a ∷ []; states = b.states ++ after ∷ [] }) b) (entry_with p (Some a) marks ∷ past)) (sym w) (record {
    names = sym (ap (λ w. cond w (with_last (row_in (written_bits past) a) a (written_bits past)) (written_bits past)) w ∙ ap (λ (rows : List Access). with_last (row_in rows a) a rows) (sym has.names) ∙ ap (λ o. with_last o a b.names) is);
    states = states-more is;
  })
  taken-by None is false w = subst (λ w. HasBits s (cond w (record { names = b.names ++ a ∷ []; states = b.states ++ after ∷ [] }) b) (entry_with p (Some a) marks ∷ past)) (sym w) (record {
    names = has.names ∙ sym (ap (λ w. cond w (with_last (row_in (written_bits past) a) a (written_bits past)) (written_bits past)) w);
    states = states-none is w;
  })

  pub bits-taken : HasBits s (bits_taken (row_in b.names a) a after b) (entry_with p (Some a) marks ∷ past)
  bits-taken = taken-by (row_in b.names a) refl (gives_value a.how) refl
