-- The bits, numbers and bytes of registers that words show.
use Rattle.std.proofs.Common.{◌≡◌, ℕ, zero, suc, ◌+◌, ◌*◌, ◌^◌, ◌<◌, ◌≤◌, ◌==◌, Bool, true, false, List, [], ◌∷◌, ◌++◌, length, take, drop, get_or, if◌then◌else◌, refl, sym, ap, ◌∙◌, add-one, pow_mono, arith}
use Rattle.std.proofs.lemmas.List.{length-take, drop-drop}
use Rattle.std.specs.Prelude.{slice_index}
use Rattle.std.proofs.Math.Seq.{drop-cons, take-length}
use Rattle.std.proofs.lemmas.List.FromFn.{get_or-map-range_with_len, length-map-range_with_len}
use mir.Val.{bool_byte}
use mathlib.Core.Option.{some, some-injective, some-ne-none}
use lib.ListN.{get_elem?}
use Rattle.model.specs.{Field, Version, bytes_of_bits, copy, stamp_field, width}
use Rattle.model.specs.declared.access.Field.TheVariants.{Commit}
use Rattle.model.specs.safe_number.{number_of_bits}
use Rattle.plain_store.specs.{Setup}
use Rattle.model.proofs.safe_number.Bits.{number-fits}
use Rattle.board.specs.{bits_shown, version_shown, word_of}

-- the word that is found at an index
pub word_at : (words : List ℕ) (k found : ℕ) → get_elem? words k ≡ some found → slice_index words k ≡ found
word_at [] k found e = absurd (some-ne-none found (sym e))
word_at (x ∷ words) zero found e = some-injective x found e
word_at (x ∷ words) (suc k) found e = word_at words k found e

-- a bit of a register
pub bit-at : (s : Setup) (words : List ℕ) (p : ℕ) (field : Field) (k : ℕ) → k < width s field → get_or (bits_shown s words p field) k false ≡ (slice_index words (word_of s (copy p field 0 k)) == 1)
bit-at s words p field k inside = get_or-map-range_with_len (λ k. slice_index words (word_of s (copy p field 0 k)) == 1) 0 (width s field) k k false inside (omega arith)

pub length-bits : (s : Setup) (words : List ℕ) (p : ℕ) (field : Field) → length (bits_shown s words p field) ≡ width s field
length-bits s words p field = length-map-range_with_len (λ k. slice_index words (word_of s (copy p field 0 k)) == 1) 0 (width s field)

-- a bit as a number
pub byte-is : (b : Bool) → bool_byte b ≡ (if b then 1 else 0)
byte-is true = refl
byte-is false = refl

pub byte-small : (b : Bool) → bool_byte b ≤ 1
byte-small true = omega arith
byte-small false = omega arith

-- the number of some bits from bit k on, and of one more
pub number-more : (values : List Bool) (k n : ℕ) → k < length values → number_of_bits (take (n + 1) (drop k values)) ≡ (if get_or values k false then 1 else 0) + 2 * number_of_bits (take n (drop (k + 1) values))
number-more values k n inside =
    let number : ℕ → List Bool → ℕ = λ m bits. number_of_bits (take m bits) in
    (λ i. number (add-one n i) (drop k values))
    ∙ ap (number (suc n)) (drop-cons values k false inside)
    ∙ (λ i. (if get_or values k false then 1 else 0) + 2 * number_of_bits (take n (drop (sym (add-one k) i) values)))

-- all the bits of a register
pub all-bits : (s : Setup) (words : List ℕ) (p : ℕ) (field : Field) → take (width s field) (drop 0 (bits_shown s words p field)) ≡ bits_shown s words p field
all-bits s words p field = ap (λ m. take m (bits_shown s words p field)) (sym (length-bits s words p field)) ∙ take-length (bits_shown s words p field)

-- n bits make a number below 2 ^ n
pub number-below : (bits : List Bool) (n : ℕ) → number_of_bits (take n bits) < 2 ^ n
number-below bits n = let fits = number-fits (take n bits) in omega (arith, fits, pow_mono {i = length (take n bits)} {j = n} (omega (arith, length-take n bits)))

-- the bytes of some bits, and of 8 more
pub bytes-more : (k : ℕ) (bits : List Bool) → bytes_of_bits (k + 1) bits ≡ bytes_of_bits k bits ++ number_of_bits (take 8 (drop (8 * k) bits)) ∷ []
bytes-more zero bits = refl
bytes-more (suc k) bits =
    let on : 8 + 8 * k ≡ 8 * suc k = omega arith in
    ap (λ n. bytes_of_bits n bits) (add-one (suc k))
    ∙ ap (λ n. number_of_bits (take 8 bits) ∷ bytes_of_bits n (drop 8 bits)) (sym (add-one k))
    ∙ ap (λ rest. number_of_bits (take 8 bits) ∷ rest) (bytes-more k (drop 8 bits))
    ∙ ap (λ rest. number_of_bits (take 8 bits) ∷ (bytes_of_bits k (drop 8 bits) ++ number_of_bits (take 8 rest) ∷ [])) (drop-drop (8 * k) 8 bits ∙ ap (λ n. drop n bits) on)

-- a commit bit, and the stamp that it chooses
pub version_is : (s : Setup) (words : List ℕ) (p n bits : ℕ) (b : Bool) → b ≡ get_or (bits_shown s words p Commit) 0 false → n ≡ number_of_bits (take bits (drop 0 (bits_shown s words p (stamp_field b)))) → bits ≡ width s (stamp_field b) →
    (let v : Version = (b, n) in v) ≡ version_shown s words p
version_is s words p n bits b is number wide =
    let all : n ≡ number_of_bits (bits_shown s words p (stamp_field b)) = number ∙ ap (λ m. number_of_bits (take m (drop 0 (bits_shown s words p (stamp_field b))))) wide ∙ ap number_of_bits (all-bits s words p (stamp_field b)) in
    λ i. (is i, (all ∙ ap (λ b. number_of_bits (bits_shown s words p (stamp_field b))) is) i)
