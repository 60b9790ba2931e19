-- A list that another of its length is written over, from the front on.
use Rattle.std.proofs.Common.{◌≡◌, ℕ, ◌+◌, ◌<◌, ◌≤◌, List, [], ◌∷◌, ◌++◌, get_or, set, length, take, drop, sym, ap, ◌∙◌, arith}
use Rattle.std.proofs.lemmas.List.{append-nil, append_assoc, length-take, get_or_at, set_at, take_all, take_more, drop_all, drop_more}

module _ {X : Type 0} (xs before : List X) where
  -- i elements are written
  abbrev pub written_over : ℕ → List X
  written_over i = take i xs ++ drop i before

  -- the next element is as it was
  pub get_or-written_over : (i : ℕ) (d : X) → length xs ≡ length before → i < length xs → get_or (written_over i) i d ≡ get_or before i d
  get_or-written_over i d same inside =
      ap (λ rest. get_or (take i xs ++ rest) i d) (drop_more before i d (omega arith))
      ∙ get_or_at (take i xs) (get_or before i d) (drop (i + 1) before) d i (omega (arith, length-take i xs))

  pub written_over-more : (i : ℕ) (x : X) → length xs ≡ length before → i < length xs → x ≡ get_or xs i x → set (written_over i) i x ≡ written_over (i + 1)
  written_over-more i x same inside is =
      ap (λ rest. set (take i xs ++ rest) i x) (drop_more before i x (omega arith))
      ∙ set_at (take i xs) (get_or before i x) (drop (i + 1) before) x i (omega (arith, length-take i xs))
      ∙ sym (append_assoc (take i xs) (x ∷ []) (drop (i + 1) before))
      ∙ ap (λ l. l ++ drop (i + 1) before) (ap (λ y. take i xs ++ y ∷ []) is ∙ sym (take_more xs i x inside))

  pub written_over-all : (i : ℕ) → length xs ≡ length before → length xs ≤ i → written_over i ≡ xs
  written_over-all i same past =
      ap (λ l. l ++ drop i before) (take_all i xs past)
      ∙ ap (λ l. xs ++ l) (drop_all i before (omega arith))
      ∙ append-nil xs
