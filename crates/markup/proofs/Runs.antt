-- Paths as `format!` puts them together, and lists that loops write.
use Rattle.std.proofs.Common.{◌≡◌, ℕ, ◌+◌, ◌<◌, ◌≤◌, List, ◌++◌, codes, drop, flat_map, get_or, length, ap, append-nil, append_assoc, sym, ◌∙◌}
use Rattle.std.proofs.lemmas.List.{at_drop_all, at_drop_more}
use Rattle.std.specs.Fmt.{decimal}

pub path_is : (x y : ℕ) (rest : List ℕ) → codes "M" ++ (decimal x ++ (codes " " ++ (decimal y ++ rest))) ≡ codes "M" ++ decimal x ++ codes " " ++ decimal y ++ rest
path_is x y rest = simp append_assoc

pub line_is : (x y : ℕ) → codes "L" ++ (decimal x ++ (codes " " ++ decimal y)) ≡ codes "L" ++ decimal x ++ codes " " ++ decimal y
line_is x y = simp append_assoc

-- one more element of a list is written: the text so far and the remaining text are still the whole
pub written_more : {A : Type 0} (f : A → List ℕ) (xs : List A) (i : ℕ) (x : A) (whole before after : List ℕ) → i < length xs → before ++ flat_map f (drop i xs) ≡ whole → after ≡ before ++ f (get_or xs i x) →
    after ++ flat_map f (drop (i + 1) xs) ≡ whole
written_more f xs i x whole before after within so_far is =
    ap (λ l. l ++ flat_map f (drop (i + 1) xs)) is ∙ append_assoc before (f (get_or xs i x)) (flat_map f (drop (i + 1) xs)) ∙ sym (at_drop_more (λ l. before ++ flat_map f l) xs i x within) ∙ so_far

-- all elements are written
pub written_all : {A : Type 0} (f : A → List ℕ) (xs : List A) (i : ℕ) (whole before : List ℕ) → length xs ≤ i → before ++ flat_map f (drop i xs) ≡ whole → before ≡ whole
written_all f xs i whole before past so_far = sym (append-nil before) ∙ sym (at_drop_all (λ l. before ++ flat_map f l) xs i past) ∙ so_far
