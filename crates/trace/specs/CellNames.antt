-- What the name of a register may be.
use Rattle.std.specs.Prelude.{ℕ, Bool, false, not, ◌&&◌, List, [], ◌∷◌}
use Rattle.std.specs.Char.{is_ascii_digit}
use Rattle.plain_store.specs.{is_name}

-- the first byte is a digit
abbrev pub begins_with_digit : List ℕ → Bool
begins_with_digit [] = false
begins_with_digit (b ∷ bytes) = is_ascii_digit b

-- a name of the store that does not begin with a digit
abbrev pub is_cell_name : List ℕ → Bool
is_cell_name bytes = is_name bytes && not (begins_with_digit bytes)
