-- The place of a name among pairs.
use Rattle.std.specs.Prelude.{ℕ, suc, if◌then◌else◌, List, [], ◌∷◌, length, Option, Some, None}
use Rattle.std.specs.Str.{bytes_eq}
use Rattle.plain_store.specs.{Pair}

-- the place of the pair with the name, or otherwise the next free one
abbrev pub place_of : List Pair → List ℕ → ℕ
place_of [] name = 0
place_of (p ∷ ps) name = if bytes_eq name p.0 then 0 else suc (place_of ps name)

-- the place of the name, if there is one, or otherwise the next free one
abbrev pub place_for : List Pair → Option (List ℕ) → ℕ
place_for pairs None = length pairs
place_for pairs (Some name) = place_of pairs name
