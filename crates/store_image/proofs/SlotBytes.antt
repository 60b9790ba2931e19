-- Reading a slot returns the pair that was written.
use Rattle.std.proofs.Common.{◌≡◌, ℕ, ℤ, pos, negsuc, ◌+◌, ◌-◌, ◌^◌, ◌<◌, ◌≤◌, true, false, List, ◌∷◌, ◌++◌, length, min, take, drop, replicate, refl, ap, sym, ◌∙◌, append_assoc, arith, length-append}
use Rattle.std.specs.Int.{w64, cast_unsigned, cast_signed}
use Rattle.std.specs.Str.{bytes_eq}
use Rattle.std.proofs.lemmas.Bool.{and_parts, and_from}
use Rattle.std.proofs.Math.Seq.{drop-append-add}
use Rattle.std.proofs.lemmas.Bool.Decides.{nat_tests}
use Rattle.std.proofs.lemmas.Int.{to_z-of_z}
use Rattle.std.proofs.lemmas.List.{take_at, get_or_at, length-replicate}
use Rattle.std.proofs.lemmas.Nat.{from_be_bytes-to_be_bytes_2, from_be_bytes-to_be_bytes_8}
use Rattle.std.proofs.lemmas.Slice.Eq.{bytes_eq-Decides}
use Rattle.store_image.specs.{count_bytes, count_in, is_number, is_unused, is_used, name_in, number_bytes, number_in, pair_in, slot_of, unused_slot, value_bytes, value_in}
use Rattle.plain_store.specs.{Pair, Value, fits_i64, is_name, is_pair, is_text, is_value, padded, take-padded}
use Rattle.plain_store.specs.declared.commands.Value.TheVariants.{Count, Text}

pub length-count_bytes : (c : ℤ) → length (count_bytes c) ≡ 8
unfolding count_bytes
length-count_bytes c = refl

pub count_in-count_bytes : (c : ℤ) → fits_i64 c ≡ true → count_in (count_bytes c) ≡ c
unfolding count_bytes count_in
count_in-count_bytes (pos n) fits =
    let small : n < 2 ^ 63 = grind (arith, nat_tests) in
    ap (cast_signed w64) (from_be_bytes-to_be_bytes_8 n (omega arith)) ∙ to_z-of_z w64 (pos n) (record { sfits = small })
count_in-count_bytes (negsuc n) fits =
    let small : n < 2 ^ 63 = grind (arith, nat_tests) in
    ap (cast_signed w64) (from_be_bytes-to_be_bytes_8 (cast_unsigned w64 (negsuc n)) (omega arith)) ∙ to_z-of_z w64 (negsuc n) (record { sfits = small })

pub length-number_bytes : (n : ℕ) → length (number_bytes n) ≡ 2
unfolding number_bytes
length-number_bytes n = refl

pub number_in-number_bytes : (n : ℕ) → is_number n ≡ true → number_in (number_bytes n) ≡ n
unfolding number_bytes number_in
number_in-number_bytes n small = from_be_bytes-to_be_bytes_2 n (grind (arith, nat_tests))

-- padded bytes have the length to which they were padded
pub length-padded : (size : ℕ) (bytes : List ℕ) → length bytes ≤ size → length (padded size bytes) ≡ size
length-padded size bytes small = omega (arith, length-append bytes (replicate (size - length bytes) 0), length-replicate {A = ℕ} (size - length bytes) 0)

pub name_room : (name : List ℕ) → is_name name ≡ true → (0 < length name) × (length name ≤ 8)
name_room name good = grind (arith, nat_tests)

pub value_room : (value : Value) → is_value value ≡ true → length (value_bytes value) ≤ 12
value_room (Count c) good = omega (arith, length-count_bytes c)
value_room (Text t) good = grind (arith, nat_tests)

pub length-slot_of : (p : Pair) → is_pair p ≡ true → length (slot_of p) ≡ 23
length-slot_of p good =
    let parts : (is_name p.0 ≡ true) × (is_value p.1 ≡ true) = and_parts (is_name p.0) (is_value p.1) good in
    omega (
      arith,
      length-append (padded 8 p.0) (length (value_bytes p.1) ∷ padded 12 (value_bytes p.1)),
      length-padded 8 p.0 (name_room p.0 parts.0).1,
      length-padded 12 (value_bytes p.1) (value_room p.1 parts.1),
    )

pub length-unused_slot : length unused_slot ≡ 23
unfolding unused_slot
length-unused_slot = refl

-- the bytes after the name
behind_name : (name : List ℕ) (l : ℕ) (more : List ℕ) → length name ≤ 8 → drop 9 (padded 8 name ++ l ∷ more) ≡ more
behind_name name l more small =
    let nine : 9 ≡ length (padded 8 name) + 1 = omega (arith, length-padded 8 name small) in
    ap (λ n. drop n (padded 8 name ++ l ∷ more)) nine
    ∙ drop-append-add (padded 8 name) (l ∷ more) 1

-- the first of three lists
take_front : (xs ys zs : List ℕ) → take (length xs) ((xs ++ ys) ++ zs) ≡ xs
take_front xs ys zs = ap (take (length xs)) (append_assoc xs ys zs) ∙ take_at xs (ys ++ zs) (length xs) refl

pub name_in-slot_of : (p : Pair) → is_pair p ≡ true → name_in (slot_of p) ≡ p.0
unfolding name_in
name_in-slot_of p good =
    let parts : (is_name p.0 ≡ true) × (is_value p.1 ≡ true) = and_parts (is_name p.0) (is_value p.1) good in
    let few : min (length p.0) 8 ≡ length p.0 = omega (arith, (name_room p.0 parts.0).1) in
    ap (λ n. take n (padded 8 p.0 ++ length (value_bytes p.1) ∷ padded 12 (value_bytes p.1))) few
    ∙ take_front p.0 (replicate (8 - length p.0) 0) (length (value_bytes p.1) ∷ padded 12 (value_bytes p.1))

pub value_in-slot_of : (p : Pair) → is_pair p ≡ true → value_in (slot_of p) ≡ p.1
unfolding value_in
value_in-slot_of (name, Count c) good = count_there
  where
    parts : (is_name name ≡ true) × (fits_i64 c ≡ true)
    parts = and_parts (is_name name) (fits_i64 c) good

    eight : take 8 (padded 12 (count_bytes c)) ≡ count_bytes c
    eight = take_at (count_bytes c) (replicate (12 - length (count_bytes c)) 0) 8 (length-count_bytes c)

    count_there : value_in (slot_of (name, Count c)) ≡ Count c
    count_there =
        ap (λ bytes. Count (count_in (take 8 bytes))) (behind_name name (length (count_bytes c)) (padded 12 (count_bytes c)) (name_room name parts.0).1)
        ∙ ap (λ bytes. Count (count_in bytes)) eight
        ∙ ap Count (count_in-count_bytes c parts.1)
value_in-slot_of (name, Text t) good = text_there
  where
    parts : (is_name name ≡ true) × (is_text t ≡ true)
    parts = and_parts (is_name name) (is_text t) good

    few : min (length t) 12 ≡ length t
    few = omega (arith, value_room (Text t) parts.1)

    text_there : value_in (slot_of (name, Text t)) ≡ Text t
    text_there =
        ap (λ n. Text (take (min n 12) (drop 9 (padded 8 name ++ length t ∷ padded 12 t)))) (get_or_at (padded 8 name) (length t) (padded 12 t) 0 8 (length-padded 8 name (name_room name parts.0).1))
        ∙ ap (λ bytes. Text (take (min (length t) 12) bytes)) (behind_name name (length t) (padded 12 t) (name_room name parts.0).1)
        ∙ ap (λ n. Text (take n (padded 12 t))) few
        ∙ ap Text (take-padded 12 t)

pub pair_in-slot_of : (p : Pair) → is_pair p ≡ true → pair_in (slot_of p) ≡ p
pair_in-slot_of p good j = (name_in-slot_of p good j, value_in-slot_of p good j)

pub is_used-slot_of : (p : Pair) → is_pair p ≡ true → is_used (slot_of p) ≡ true
is_used-slot_of p good =
    let same : pair_in (slot_of p) ≡ p = pair_in-slot_of p good in
    and_from (is_pair (pair_in (slot_of p))) (bytes_eq (slot_of p) (slot_of (pair_in (slot_of p))))
    (ap is_pair same ∙ good)
    ((bytes_eq-Decides (slot_of p) (slot_of (pair_in (slot_of p)))).1 (sym (ap slot_of same)))

pub is_unused-slot_of : (p : Pair) → is_unused (slot_of p) ≡ false
unfolding unused_slot
is_unused-slot_of (name, Count c) = refl
is_unused-slot_of (name, Text t) = refl

pub is_unused-unused_slot : is_unused unused_slot ≡ true
is_unused-unused_slot = (bytes_eq-Decides unused_slot unused_slot).1 refl
