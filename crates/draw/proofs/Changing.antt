-- What the commands taken change: the value of a name among pairs, and a pair as it is shown.
use Rattle.std.proofs.Common.{◌≡◌, ℕ, ◌+◌, true, false, List, drop, slice_get, Some, refl, ap, ◌∙◌}
use Rattle.std.specs.Str.{bytes_eq}
use Rattle.model.specs.plain_store.{Pair, value_at}
use Rattle.record_accesses.proofs.plain_store.OpeningPairs.{drop-next}

-- the pair of the name that is sought
pub found_here : (pairs : List Pair) (k : ℕ) (pair : Pair) (name : List ℕ) → slice_get pairs k ≡ Some pair → bytes_eq name pair.0 ≡ true → value_at (drop k pairs) name ≡ Some pair.1
found_here pairs k pair name at same = ap (λ ps. value_at ps name) (drop-next pairs k pair at) ∙ rw same refl

-- a pair of another name is passed over
pub passed_over : (pairs : List Pair) (k : ℕ) (pair : Pair) (name : List ℕ) → slice_get pairs k ≡ Some pair → bytes_eq name pair.0 ≡ false → value_at (drop k pairs) name ≡ value_at (drop (k + 1) pairs) name
passed_over pairs k pair name at differs = ap (λ ps. value_at ps name) (drop-next pairs k pair at) ∙ rw differs refl
