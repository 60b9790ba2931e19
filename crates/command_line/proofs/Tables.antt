-- A search for an item, and then a function of it.
use Rattle.std.proofs.Common.{refl, true, false, Bool, Option, Some, None, List, [], ◌∷◌, ◌≡◌, find, map, option_map, cond}
use Rattle.std.specs.Borrow.{Bor}

pub find_map : {A B : Type 0} (f : A → B) (p : B → Bool) (xs : List A) → option_map f (find (λ x. p (f x)) xs) ≡ find p (map f xs)
find_map f p [] = refl
find_map f p (x ∷ xs) = elim (p (f x)) as (λ b. option_map f (cond b (Some x) (find (λ y. p (f y)) xs)) ≡ cond b (Some (f x)) (find p (map f xs)))
    [ true ↦ refl | false ↦ find_map f p xs ]

pub map_lent : {A B : Type 0} (f : A → B) (r : Option (Bor A)) → option_map (λ e. f e.now) r ≡ option_map f (option_map (λ e. e.now) r)
map_lent f None = refl
map_lent f (Some e) = refl
