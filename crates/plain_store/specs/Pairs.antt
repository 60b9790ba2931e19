-- Names with their values, in a list or in eight places.
use Rattle.std.specs.Prelude.{ℕ, ◌-◌, Bool, ◌&&◌, List, ◌++◌, length, map, replicate, Option, Some, None}
use Rattle.std.specs.List.{flat_map}
use Rattle.std.specs.Option.{option_to_list}
use Rattle.plain_store.specs.Names.{is_name}
use Rattle.plain_store.specs.Values.{is_value}
use Rattle.plain_store.specs.declared.commands.Value.{Value}

-- a name with its value
abbrev pub Pair : Type 0
Pair = List ℕ × Value

-- a name with a value
abbrev pub is_pair : Pair → Bool
is_pair p = is_name p.0 && is_value p.1

-- the pairs in the first places, and nothing in the places after them
abbrev pub placed : List Pair → List (Option Pair)
placed pairs = map Some pairs ++ replicate (8 - length pairs) None

-- the pairs in the places
abbrev pub pairs_in : List (Option Pair) → List Pair
pairs_in = flat_map option_to_list
