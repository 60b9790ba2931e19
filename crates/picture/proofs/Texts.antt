-- Numbers that are listed, and how far signs reach.
use Rattle.std.proofs.Common.{◌≡◌, ℕ, zero, suc, ◌+◌, ◌<◌, ◌≤◌, ◌==◌, cond, List, [], ◌∷◌, ◌++◌, flat_map, get_or, length, take, ap, sym, ◌∙◌, append-nil, append_assoc, arith, ne_eqb}
use Rattle.std.proofs.lemmas.Grind.{flat_map-append}
use Rattle.std.proofs.lemmas.List.{take_more}
use Rattle.std.specs.Fmt.{decimal}
use Rattle.picture_layout.specs.{RunLine}
use Rattle.picture.specs.{lines_reach, listed_with}

-- one number more of a list of them
join_push : (sep : List ℕ) (xs : List ℕ) (y : ℕ) → flat_map (λ x. sep ++ decimal x) (xs ++ y ∷ []) ≡ flat_map (λ x. sep ++ decimal x) xs ++ (sep ++ decimal y)
join_push sep xs y = flat_map-append (λ x. sep ++ decimal x) xs (y ∷ []) ∙ ap (λ l. flat_map (λ x. sep ++ decimal x) xs ++ l) (append-nil (sep ++ decimal y))

pub listed_more : (sep numbers : List ℕ) (k d : ℕ) (text new : List ℕ) → k < length numbers → text ≡ listed_with sep (take k numbers) → new ≡ text ++ cond (k == 0) [] sep ++ decimal (get_or numbers k d) → new ≡ listed_with sep (take (k + 1) numbers)
listed_more sep [] k d text new within before is = absurd (omega (arith, within))
listed_more sep (x ∷ xs) zero d text new within before is = is ∙ ap (λ t. t ++ [] ++ decimal x) before ∙ sym (append-nil (decimal x))
listed_more sep (x ∷ xs) (suc k) d text new within before is =
    is ∙ ap (λ b. text ++ cond b [] sep ++ decimal (get_or xs k d)) (ne_eqb (suc k) 0 (λ e. omega (arith, e))) ∙ ap (λ t. t ++ sep ++ decimal (get_or xs k d)) before
    ∙ append_assoc (decimal x ++ flat_map (λ y. sep ++ decimal y) (take k xs)) sep (decimal (get_or xs k d))
    ∙ append_assoc (decimal x) (flat_map (λ y. sep ++ decimal y) (take k xs)) (sep ++ decimal (get_or xs k d))
    ∙ ap (λ l. decimal x ++ l) (sym (join_push sep (take k xs) (get_or xs k d)) ∙ ap (flat_map (λ y. sep ++ decimal y)) (sym (take_more xs k d (omega (arith, within)))))
    ∙ ap (λ m. listed_with sep (x ∷ take m xs)) (let e : k + 1 ≡ suc k = omega arith in e)
    ∙ ap (λ m. listed_with sep (take m (x ∷ xs))) (let e : suc (suc k) ≡ suc k + 1 = omega arith in e)

-- each sign reaches somewhere
pub reach_some : (lines : List RunLine) → 1 ≤ lines_reach lines
reach_some [] = omega arith
reach_some (line ∷ lines) = let more = reach_some lines in omega (arith, more)
