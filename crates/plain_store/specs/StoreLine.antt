-- The text of a store.
use Rattle.std.specs.Prelude.{ℕ, List, [], ◌∷◌, ◌++◌, codes, flat_map}
use Rattle.plain_store.specs.Pairs.{Pair}
use Rattle.plain_store.specs.Shown.{value_text}

-- `NAME=VALUE`
abbrev pub pair_text : Pair → List ℕ
pair_text pair = pair.0 ++ codes "=" ++ value_text pair.1

-- a pair after another one
abbrev pub next_pair : Pair → List ℕ
next_pair pair = codes " " ++ pair_text pair

-- the pairs of a store with single spaces between them, or that it is empty
abbrev pub store_words : List Pair → List ℕ
store_words [] = codes "empty"
store_words (pair ∷ pairs) = pair_text pair ++ flat_map next_pair pairs

-- the store on one line
abbrev pub show_text : List Pair → List ℕ
show_text pairs = codes "show " ++ store_words pairs ++ codes "\n"
