-- Merges of lists.
use Rattle.std.proofs.Common.{List, [], ◌∷◌, ◌++◌, map}
use Rattle.std.specs.List.{flat_map}
use Rattle.call_check.specs.{IsMergeOfTwo, over, of_first, of_second, IsMerge, of_none, of_more}

-- two merges, one after the other
pub two_append : {A : Type 0} {xs ys zs us vs ws : List A} → IsMergeOfTwo xs ys zs → IsMergeOfTwo us vs ws → IsMergeOfTwo (xs ++ us) (ys ++ vs) (zs ++ ws)
two_append over then = then
two_append (of_first first) then = of_first (two_append first then)
two_append (of_second first) then = of_second (two_append first then)

-- the second list alone
second_alone : {A : Type 0} (ys : List A) → IsMergeOfTwo [] ys ys
second_alone [] = over
second_alone (y ∷ ys) = of_second (second_alone ys)

-- one list after the other
pub two_in_turn : {A : Type 0} (xs ys : List A) → IsMergeOfTwo xs ys (xs ++ ys)
two_in_turn [] ys = second_alone ys
two_in_turn (x ∷ xs) ys = of_first (two_in_turn xs ys)

-- each list after the one before
pub in_turn : {X A : Type 0} (f : X → List A) (xs : List X) → IsMerge (map f xs) (flat_map f xs)
in_turn f [] = of_none
in_turn f (x ∷ xs) = of_more (in_turn f xs) (two_in_turn (f x) (flat_map f xs))

-- two merges of equally many lists, one after the other
pub merge_append : {X A : Type 0} (f g : X → List A) (xs : List X) {one other : List A} → IsMerge (map f xs) one → IsMerge (map g xs) other → IsMerge (map (λ x. f x ++ g x) xs) (one ++ other)
merge_append f g [] of_none of_none = of_none
merge_append f g (x ∷ xs) (of_more one here) (of_more other there) = of_more (merge_append f g xs one other) (two_append here there)
