-- Merges: one list of the members of many, each of which keeps its order.
use Rattle.std.specs.Prelude.{List, [], ◌∷◌}

-- one list of the members of two: its next member is the next one of either
pub data IsMergeOfTwo {A : Type 0} : List A → List A → List A → Type 0 where
  over : IsMergeOfTwo [] [] []
  of_first : {x : A} {xs ys merged : List A} → IsMergeOfTwo xs ys merged → IsMergeOfTwo (x ∷ xs) ys (x ∷ merged)
  of_second : {y : A} {xs ys merged : List A} → IsMergeOfTwo xs ys merged → IsMergeOfTwo xs (y ∷ ys) (y ∷ merged)

-- one list of the members of any number of lists: the first list merged with a merge of the others
pub data IsMerge {A : Type 0} : List (List A) → List A → Type 0 where
  of_none : IsMerge [] []
  of_more : {xs others merged : List A} {lists : List (List A)} → IsMerge lists others → IsMergeOfTwo xs others merged → IsMerge (xs ∷ lists) merged
