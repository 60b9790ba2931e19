-- The parts of a word between its dots.
use Rattle.std.proofs.Common.{◌≡◌, ℕ, ◌<◌, ◌==◌, List, [], ◌∷◌, ◌++◌, length, codes, refl, sym, ◌∙◌, arith}
use Rattle.std.proofs.lemmas.List.Splits.{join_with_byte-slice_split, length-slice_split}
use Rattle.std.specs.List.{join_with_byte}
use Rattle.files.specs.{word}
use Rattle.record_file.specs.{dotted}

-- each word has a part
pub some_part : (bs : List ℕ) → 0 < length (dotted bs)
some_part bs = let parts = length-slice_split (λ b. b == 46) bs in omega (arith, parts)

-- four parts, with the dots between them
of_four : (parts : List (List ℕ)) → length parts ≡ 4 → join_with_byte 46 parts ≡ word 0 parts ++ (codes "." ++ (word 1 parts ++ (codes "." ++ (word 2 parts ++ (codes "." ++ word 3 parts)))))
of_four [] n = absurd (omega (arith, n))
of_four (a ∷ []) n = absurd (omega (arith, n))
of_four (a ∷ b ∷ []) n = absurd (omega (arith, n))
of_four (a ∷ b ∷ c ∷ []) n = absurd (omega (arith, n))
of_four (a ∷ b ∷ c ∷ d ∷ []) n = refl
of_four (a ∷ b ∷ c ∷ d ∷ e ∷ parts) n = absurd (omega (arith, n))

-- A word of four parts consists of them, with the dots between them.
pub four_parts : (w : List ℕ) → length (dotted w) ≡ 4 → w ≡ word 0 (dotted w) ++ (codes "." ++ (word 1 (dotted w) ++ (codes "." ++ (word 2 (dotted w) ++ (codes "." ++ word 3 (dotted w))))))
four_parts w n = sym (join_with_byte-slice_split 46 w) ∙ of_four (dotted w) n
