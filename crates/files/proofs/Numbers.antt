-- The numbers of the lines that are not skipped.
use Rattle.std.proofs.Common.{◌≡◌, ℕ, suc, ◌+◌, Bool, true, false, cond, if◌then◌else◌, List, [], ◌∷◌, ◌++◌, length, map, filter, refl, ap, ◌∙◌, append_assoc}
use Rattle.files.specs.{is_said, said_numbers, words_of}

-- the number of a line, and those of the lines after it
numbers_on : (n : ℕ) (line : List ℕ) (rest : List (List ℕ)) → said_numbers n (line ∷ []) ++ said_numbers (n + 1) rest ≡ said_numbers n (line ∷ rest)
numbers_on n line rest = by (is_said (words_of line))
  where
    by : (b : Bool) → (if b then n ∷ [] else []) ++ said_numbers (n + 1) rest ≡ (if b then n ∷ said_numbers (n + 1) rest else said_numbers (n + 1) rest)
    by true = refl
    by false = refl

-- after the number of one more line, the numbers of the remaining lines follow
pub numbers_more : (before now : List ℕ) (n : ℕ) (line : List ℕ) (rest : List (List ℕ)) → now ≡ before ++ said_numbers n (line ∷ []) → now ++ said_numbers (n + 1) rest ≡ before ++ said_numbers n (line ∷ rest)
numbers_more before now n line rest is =
    ap (λ ns. ns ++ said_numbers (n + 1) rest) is
    ∙ append_assoc before (said_numbers n (line ∷ [])) (said_numbers (n + 1) rest)
    ∙ ap (λ ns. before ++ ns) (numbers_on n line rest)

-- each line that is not skipped has a number
pub numbers_many : (n : ℕ) (ls : List (List ℕ)) → length (said_numbers n ls) ≡ length (filter is_said (map words_of ls))
numbers_many n [] = refl
numbers_many n (line ∷ rest) = by (is_said (words_of line)) (numbers_many (n + 1) rest)
  where
    by : (b : Bool) → length (said_numbers (n + 1) rest) ≡ length (filter is_said (map words_of rest)) →
        length (if b then n ∷ said_numbers (n + 1) rest else said_numbers (n + 1) rest) ≡ length (cond b (words_of line ∷ filter is_said (map words_of rest)) (filter is_said (map words_of rest)))
    by true same = ap suc same
    by false same = same
