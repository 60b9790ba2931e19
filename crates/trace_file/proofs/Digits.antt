-- Numbers of one digit.
use Rattle.std.proofs.Common.{◌≡◌, ℕ, zero, suc, ◌+◌, ◌-◌, ◌<◌, ◌≤◌, nat_le, true, if◌then◌else◌, List, [], ◌∷◌, length, slice_index_or, Some, None, Ok, ap, sym, ◌∙◌, arith}
use Rattle.std.proofs.lemmas.Bool.Decides.{nat_tests}
use Rattle.std.specs.Char.{is_ascii_digit}
use Rattle.std.specs.Option.{ok_or}
use Rattle.files.specs.declared.faults.FaultKind.TheVariants.{Number}
use Rattle.scenario.specs.{number_at}

digit_number : (most k : ℕ) → nat_le k most ≡ true → k < 10 → number_at most ((48 + k) ∷ []) ≡ Ok k
digit_number most zero within small = ap (λ b. ok_or (if b then Some 0 else None) Number) within
digit_number most (suc zero) within small = ap (λ b. ok_or (if b then Some 1 else None) Number) within
digit_number most (suc (suc zero)) within small = ap (λ b. ok_or (if b then Some 2 else None) Number) within
digit_number most (suc (suc (suc zero))) within small = ap (λ b. ok_or (if b then Some 3 else None) Number) within
digit_number most (suc (suc (suc (suc zero)))) within small = ap (λ b. ok_or (if b then Some 4 else None) Number) within
digit_number most (suc (suc (suc (suc (suc zero))))) within small = ap (λ b. ok_or (if b then Some 5 else None) Number) within
digit_number most (suc (suc (suc (suc (suc (suc zero)))))) within small = ap (λ b. ok_or (if b then Some 6 else None) Number) within
digit_number most (suc (suc (suc (suc (suc (suc (suc zero))))))) within small = ap (λ b. ok_or (if b then Some 7 else None) Number) within
digit_number most (suc (suc (suc (suc (suc (suc (suc (suc zero)))))))) within small = ap (λ b. ok_or (if b then Some 8 else None) Number) within
digit_number most (suc (suc (suc (suc (suc (suc (suc (suc (suc zero))))))))) within small = ap (λ b. ok_or (if b then Some 9 else None) Number) within
digit_number most (suc (suc (suc (suc (suc (suc (suc (suc (suc (suc k)))))))))) within small = absurd (omega (arith, small))

-- A digit writes its number.
pub digit_is : (most d : ℕ) → is_ascii_digit d ≡ true → 9 ≤ most → number_at most (d ∷ []) ≡ Ok (d - 48)
digit_is most d is few =
    let low : 48 ≤ d = grind (arith, nat_tests) in
    let high : d ≤ 57 = grind (arith, nat_tests) in
    let within : nat_le (d - 48) most ≡ true = grind (arith, nat_tests) in
    let back : d ≡ 48 + (d - 48) = omega (arith, low) in
    ap (λ c. number_at most (c ∷ [])) back ∙ digit_number most (d - 48) within (omega (arith, low, high))

-- So does a word of one digit.
pub one_digit : (word : List ℕ) (most : ℕ) → length word ≡ 1 → is_ascii_digit (slice_index_or word 0 0) ≡ true → 9 ≤ most → number_at most word ≡ Ok (slice_index_or word 0 0 - 48)
one_digit [] most one is few = absurd (omega (arith, one))
one_digit (d ∷ []) most one is few = digit_is most d is few
one_digit (d ∷ e ∷ ds) most one is few = absurd (omega (arith, one))
