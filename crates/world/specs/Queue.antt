-- The processes ahead of a process, as a list.
use Rattle.std.specs.Prelude.{ℕ, ◌+◌, Bool, cond, List, [], ◌∷◌}

-- the indices of the trues, ascending; the first element has index k
abbrev pub listed_from : ℕ → List Bool → List ℕ
listed_from k [] = []
listed_from k (b ∷ bits) = cond b (k ∷ listed_from (k + 1) bits) (listed_from (k + 1) bits)

-- the indices of the trues, ascending
abbrev pub listed : List Bool → List ℕ
listed bits = listed_from 0 bits
