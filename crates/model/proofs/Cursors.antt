-- The accesses that a write and a read have left, by their cursors.
use Rattle.std.proofs.Common.{◌≡◌, ℕ, zero, suc, ◌+◌, ◌-◌, ◌*◌, ◌<◌, ◌≤◌, ◌==◌, ◌&&◌, Bool, true, false, cond, List, [], ◌∷◌, ◌++◌, Some, None, drop, length, map, replicate, refl, sym, ap, ◌∙◌, arith}
use Rattle.std.proofs.lemmas.Bool.{eqb-true, eqb-false, ne_eqb}
use Rattle.std.proofs.lemmas.List.{drop_more}
use Rattle.std.specs.Prelude.{slice_get, is_none}
use Rattle.safe_bit.specs.declared.Move.TheVariants.{EndRead}
use Rattle.reader_copies.specs.{Made, Writing, bit_writes, rest_of_write}
use Rattle.reader_copies.proofs.Orders.{rest-write, length-writes}
use Rattle.safe_number.specs.{NumberWrite, at_bit, new_write, number_writes, reads_from, writes_from}
use Rattle.safe_number.proofs.Orders.{drop_past}
use Rattle.model.specs.{bit_written, next_written, write_moved, next_read}

one_more : (k : ℕ) → suc k ≡ k + 1
one_more k = omega arith

pub get-drop : {X : Type 0} (xs ys : List X) (k : ℕ) (y : X) → drop k xs ≡ y ∷ ys → slice_get xs k ≡ Some y
get-drop [] ys zero y h = cc
get-drop [] ys (suc k) y h = cc
get-drop (x ∷ xs) ys zero y h = let e : x ≡ y = cc in ap Some e
get-drop (x ∷ xs) ys (suc k) y h = get-drop xs ys k y h

drop-next : {X : Type 0} (xs ys : List X) (k : ℕ) (y : X) → drop k xs ≡ y ∷ ys → drop (suc k) xs ≡ ys
drop-next [] ys zero y h = cc
drop-next [] ys (suc k) y h = cc
drop-next (x ∷ xs) ys zero y h = cc
drop-next (x ∷ xs) ys (suc k) y h = drop-next xs ys k y h

pub drop-more : {X : Type 0} (xs ys : List X) (k : ℕ) (y : X) → drop k xs ≡ y ∷ ys → drop (k + 1) xs ≡ ys
drop-more xs ys k y h = ap (λ i. drop i xs) (sym (one_more k)) ∙ drop-next xs ys k y h

-- the access at k is the last one if nothing comes after it
pub length-drop : {X : Type 0} (xs ys : List X) (k : ℕ) → 0 < length ys → drop k xs ≡ ys → length xs ≡ k + length ys
length-drop [] ys zero some h = absurd (omega (arith, ap length h))
length-drop [] ys (suc k) some h = absurd (omega (arith, ap length h))
length-drop (x ∷ xs) ys zero some h = omega (arith, ap length h)
length-drop (x ∷ xs) ys (suc k) some h = omega (arith, length-drop xs ys k some h)

pub drop-map : {X Y : Type 0} (f : X → Y) (xs : List X) (k : ℕ) → drop k (map f xs) ≡ map f (drop k xs)
drop-map f [] zero = refl
drop-map f [] (suc k) = refl
drop-map f (x ∷ xs) zero = refl
drop-map f (x ∷ xs) (suc k) = drop-map f xs k

-- the accesses left of a write of these bits, of which m bits are still to be written
abbrev pub left_bits : ℕ → List Bool → NumberWrite → ℕ → List (ℕ × Made)
left_bits n bits w zero = []
left_bits n bits w (suc m) = map (at_bit w.bit) (rest_of_write n (bit_written bits w)) ++ writes_from n (w.bit + 1) (drop (w.bit + 1) bits)

-- the accesses left of a write
abbrev pub left_written : ℕ → List Bool → NumberWrite → List (ℕ × Made)
left_written n bits w = left_bits n bits w (w.width - w.bit)

-- the accesses left when the next bit comes
next_bit : (n : ℕ) (bits : List Bool) (width bit m : ℕ) → bit + m ≡ length bits → left_bits n bits (record { width = width; bit = bit; run = None }) m ≡ writes_from n bit (drop bit bits)
next_bit n bits width bit zero h = sym (ap (writes_from n bit) (drop_past bits bit (omega arith)))
next_bit n bits width bit (suc m) h = sym (ap (writes_from n bit) (drop_more bits bit false (omega arith)))

-- whether the present bit is done or not
on_bit : (n : ℕ) (bits : List Bool) (width bit m made : ℕ) (v ended : Bool) → made ≤ 2 * n → (made == 2 * n) ≡ ended → width - bit ≡ suc m → bit + suc m ≡ length bits
    → let run : Writing = record { value = v; made = made; ended = ended } in
    let w : NumberWrite = cond ended (record { width = width; bit = bit + 1; run = None }) (record { width = width; bit = bit; run = Some run }) in
    left_written n bits w ≡ map (at_bit bit) (drop made (bit_writes n v)) ++ writes_from n (bit + 1) (drop (bit + 1) bits)
on_bit n bits width bit m made v true fits e remaining all =
    let whole : made ≡ 2 * n = eqb-true made (2 * n) e in
    let fewer : width - (bit + 1) ≡ m = omega arith in
    ap (left_bits n bits (record { width = width; bit = bit + 1; run = None })) fewer
    ∙ next_bit n bits width (bit + 1) m (omega arith)
    ∙ ap (λ xs. map (at_bit bit) xs ++ writes_from n (bit + 1) (drop (bit + 1) bits)) (sym (drop_past (bit_writes n v) made (omega (arith, length-writes 0 n v))))
on_bit n bits width bit m made v false fits e remaining all =
    ap (left_bits n bits (record { width = width; bit = bit; run = Some (record { value = v; made = made; ended = false }) })) remaining

-- a write that has more accesses to make
pub record Goes (n : ℕ) (bits : List Bool) (w : NumberWrite) : Type 0 where
  pub width : w.width ≡ length bits
  pub inside : w.bit < w.width
  pub going : (bit_written bits w).made < 2 * n

-- the next access of a write is the first of those that are left
pub remaining-next : (n : ℕ) (bits : List Bool) (w : NumberWrite) → Goes n bits w → left_written n bits w ≡ next_written bits w ∷ left_written n bits (write_moved n bits w)
remaining-next n bits w on =
    let run : Writing = bit_written bits w in
    let m : ℕ = w.width - w.bit - 1 in
    let remaining : w.width - w.bit ≡ suc m = omega (arith, on.inside) in
    let more : List (ℕ × Made) = writes_from n (w.bit + 1) (drop (w.bit + 1) bits) in
    ap (left_bits n bits w) remaining
    ∙ ap (λ xs. map (at_bit w.bit) xs ++ more) (rest-write n run on.going)
    ∙ ap (λ xs. next_written bits w ∷ xs) (sym (on_bit n bits w.width w.bit m (run.made + 1) run.value (run.made + 1 == 2 * n) (omega (arith, on.going)) refl remaining (omega (arith, on.width, on.inside))))

-- after its next access a write is done, or goes on
pub record Moved (n : ℕ) (bits : List Bool) (w : NumberWrite) : Type 0 where
  pub width : w.width ≡ length bits
  pub inside : w.bit ≤ w.width
  pub going : (bit_written bits w).made < 2 * n
  pub begun : ((w.bit == 0) && is_none w.run) ≡ false

moved : (n width bit made : ℕ) (bits : List Bool) (v ended : Bool) → width ≡ length bits → bit < width → 0 < n → made ≤ 2 * n → (made == 2 * n) ≡ ended
    → let run : Writing = record { value = v; made = made; ended = ended } in
    let w : NumberWrite = cond ended (record { width = width; bit = bit + 1; run = None }) (record { width = width; bit = bit; run = Some run }) in
    Moved n bits w
moved n width bit made bits v true same inside some fits e =
    record { width = same; inside = omega arith; going = omega arith; begun = ap (λ b. b && true) (ne_eqb (bit + 1) 0 (λ u. omega (arith, u))) }
moved n width bit made bits v false same inside some fits e =
    let apart : made ≡ 2 * n → ⊥ = eqb-false made (2 * n) e in
    record { width = same; inside = omega arith; going = omega arith; begun = none (bit == 0) }
  where
    none : (b : Bool) → (b && false) ≡ false
    none true = refl
    none false = refl

pub write-moves : (n : ℕ) (bits : List Bool) (w : NumberWrite) → 0 < n → Goes n bits w → Moved n bits (write_moved n bits w)
write-moves n bits w some on =
    let run : Writing = bit_written bits w in
    moved n w.width w.bit (run.made + 1) bits run.value (run.made + 1 == 2 * n) on.width on.inside some (omega (arith, on.going)) refl

-- a write that is done has nothing left
pub remaining-done : (n : ℕ) (bits : List Bool) (w : NumberWrite) → w.bit ≡ w.width → left_written n bits w ≡ []
remaining-done n bits w all = let none : w.width - w.bit ≡ 0 = omega arith in ap (left_bits n bits w) none

-- a new write has all of them left
pub remaining-new : (n : ℕ) (bits : List Bool) (width : ℕ) → width ≡ length bits → left_written n bits (new_write width) ≡ number_writes n bits
remaining-new n bits width same = let all : width - 0 ≡ width = omega arith in ap (left_bits n bits (new_write width)) all ∙ next_bit n bits width 0 width (omega arith)

-- the accesses left of a read that has read these bits
abbrev pub left_read : ℕ → ℕ → List Bool → Bool → List (ℕ × Made)
left_read reader width bits true = at_bit (length bits) (record { reader = reader; how = EndRead false }) ∷ reads_from reader (length bits + 1) (replicate (width - (length bits + 1)) false)
left_read reader width bits false = reads_from reader (length bits) (replicate (width - length bits) false)

pub read-begins : (reader width : ℕ) (bits : List Bool) → length bits < width → left_read reader width bits false ≡ next_read reader bits false ∷ left_read reader width bits true
read-begins reader width bits h =
    let one : width - length bits ≡ suc (width - (length bits + 1)) = omega arith in
    ap (λ k. reads_from reader (length bits) (replicate k false)) one

pub read-ends : (reader width : ℕ) (bits : List Bool) (v : Bool) → left_read reader width bits true ≡ next_read reader bits true ∷ left_read reader width (bits ++ v ∷ []) false
read-ends reader width bits v =
    let one : length bits + 1 ≡ length (bits ++ v ∷ []) = sym (Rattle.std.proofs.lemmas.List.length_push bits v) in
    ap (λ k. at_bit (length bits) (record { reader = reader; how = EndRead false }) ∷ reads_from reader k (replicate (width - k) false)) one
