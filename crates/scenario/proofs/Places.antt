-- Lists before a position, and from it on.
use Rattle.std.proofs.Common.{◌≡◌, ℕ, ◌+◌, ◌<◌, ◌≤◌, Bool, true, List, ◌∷◌, length, drop, take, get_or, ap, sym, ◌∙◌}
use Rattle.std.proofs.lemmas.Bool.{and_from}
use Rattle.std.proofs.lemmas.List.{drop_more, take_all}
use Rattle.std.proofs.lemmas.List.Folds.{list_all_more}
use Rattle.std.specs.List.{list_all}

-- the element at a position is the first one of the rest from there on
pub drop_in : {X : Type 0} (xs : List X) (k : ℕ) (x : X) → k < length xs → x ≡ get_or xs k x → drop k xs ≡ x ∷ drop (k + 1) xs
drop_in xs k x within is = drop_more xs k x within ∙ ap (λ y. y ∷ drop (k + 1) xs) (sym is)

-- a fact about all elements before a position, and about the next one
pub next_in : {X : Type 0} (p : X → Bool) (xs : List X) (k : ℕ) (x : X) → k < length xs → x ≡ get_or xs k x → list_all p (take k xs) ≡ true → p x ≡ true → list_all p (take (k + 1) xs) ≡ true
next_in p xs k x within is all this =
    list_all_more p xs k x within ∙ and_from (list_all p (take k xs)) (p (get_or xs k x)) all (ap p (sym is) ∙ this)

-- a fact about all elements before the end
pub all_at_end : {X : Type 0} (p : X → Bool) (xs : List X) (k : ℕ) → length xs ≤ k → list_all p (take k xs) ≡ true → list_all p xs ≡ true
all_at_end p xs k done all = rw (take_all k xs done) at all
