-- The position of the first 0x0A.
use Rattle.std.proofs.Common.{◌≡◌, ◌+◌, ◌%◌, ◌^◌, ◌<◌, ◌≤◌, ℕ, eqb, nat_lt, Bool, true, false, not, cond, List, get_or, length, map, replicate, take, Option, Some, None, w8, refl, ap, sym, subst, ◌∙◌, arith, inl, inr}
use Rattle.std.proofs.lemmas.Bool.{cases_eq, false≢true}
use Rattle.std.proofs.lemmas.Bool.Decides.{nat_tests}
use Rattle.std.proofs.lemmas.List.{length-take-le}
use Rattle.std.proofs.lemmas.List.Sums.{position_or_len_is}
use Rattle.std.proofs.lemmas.Simd.{bitmask_splat, run_in_chunk_fails, run_in_chunk_stops, trailing_mask_l}
use Rattle.std.specs.List.{position, position_or_len, prefix_len}
use lib.Count.{count_trailing_zeros}
use lib.Lanes.{mask_l, top, zip2}
use Rattle.memchr.specs.Find.{IsFirstByte, is_byte}
use Rattle.files.specs.{ends_line}

no_true : (b : Bool) → ¬ (b ≡ true) → b ≡ false
no_true true not = absurd (not refl)
no_true false not = refl

-- the first byte that is 0x0A
pub place_is : (bytes : List ℕ) (place : Option ℕ) → IsFirstByte (is_byte 10) bytes place → place ≡ position ends_line bytes
place_is bytes None none =
    let all : position_or_len ends_line bytes ≡ length bytes = position_or_len_is ends_line bytes (length bytes) 0 (omega arith) (λ k below. no_true _ (none k (omega arith) below)) (λ within. absurd (omega (arith, within))) in
    let behind : nat_lt (position_or_len ends_line bytes) (length bytes) ≡ false = grind (arith, nat_tests) in
    ap (λ (b : Bool). cond b (Some (position_or_len ends_line bytes)) None) (sym behind)
place_is bytes (Some k) found =
    let first : position_or_len ends_line bytes ≡ k = position_or_len_is ends_line bytes k 0 (omega (arith, found.0.high)) (λ j below. no_true _ (found.0.before j (omega arith) below)) (λ within. found.1) in
    let inside : k < length bytes = found.0.high in
    let within : nat_lt (position_or_len ends_line bytes) (length bytes) ≡ true = grind (arith, nat_tests) in
    ap (λ (j : ℕ). Some j) (sym first) ∙ ap (λ (b : Bool). cond b (Some (position_or_len ends_line bytes)) None) (sym within)

-- The first 32 bytes, compared at once: the bits of the bytes that are 0x0A.
abbrev near_ends : List ℕ → ℕ
near_ends bytes = mask_l (map (top 7) (zip2 (λ a b. cond (eqb a b) 255 0) (take 32 bytes) (replicate 32 10))) % 2 ^ 64

none_set : count_trailing_zeros 64 0 ≡ 64
unfolding count_trailing_zeros
none_set = refl

-- the lowest of the bits
pub near_is : (bytes : List ℕ) → 32 ≤ length bytes → count_trailing_zeros 64 (near_ends bytes) < 32 → position ends_line bytes ≡ Some (count_trailing_zeros 64 (near_ends bytes))
near_is bytes room near = by (near_ends bytes) (bitmask_splat w8 eqb (take 32 bytes) 32 10 long (omega arith)) near
  where
    long : length (take 32 bytes) ≡ 32
    long = length-take-le 32 bytes room

    is_one : ℕ → Bool
    is_one b = eqb b 10

    first : (mask r : ℕ) → mask ≡ mask_l (map is_one (take 32 bytes)) → 0 < mask → r ≡ count_trailing_zeros 64 mask → r < 32 → position ends_line bytes ≡ Some r
    first mask r is some at near =
        let counted : r ≡ prefix_len (λ b. not (is_one b)) (take 32 bytes) = at ∙ ap (count_trailing_zeros 64) is ∙ trailing_mask_l is_one 64 (take 32 bytes) (omega (arith, long)) (subst (λ m. 0 < m) is some) in
        let here : 0 + r ≡ r = omega arith in
        sym (place_is bytes (Some r) (
          record {
            low = omega arith;
            high = omega (arith, near, room);
            before = λ k low below passes. absurd (false≢true (sym (run_in_chunk_fails is_one bytes 0 32 r 0 room counted k low (omega (arith, below))) ∙ passes));
          },
          subst (λ k. is_one (get_or bytes k 0) ≡ true) here (run_in_chunk_stops is_one bytes 0 32 r 0 room counted near),
        ))

    by : (mask : ℕ) → mask ≡ mask_l (map is_one (take 32 bytes)) → count_trailing_zeros 64 mask < 32 → position ends_line bytes ≡ Some (count_trailing_zeros 64 mask)
    by mask is near =
        elim (cases_eq mask 0) [
          | inl none ↦ absurd (omega (arith, none_set, subst (λ m. count_trailing_zeros 64 m < 32) none near))
          | inr some ↦ first mask (count_trailing_zeros 64 mask) is (omega (arith, some)) refl near
        ]
