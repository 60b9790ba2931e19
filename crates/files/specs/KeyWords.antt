-- Tables of key words.
use Rattle.std.specs.Prelude.{ℕ, List, map, find, Option}
use Rattle.std.specs.Str.{bytes_eq}
use Rattle.std.specs.Borrow.{Bor}

-- a key word and its meaning
abbrev pub KeyWord : Type 0 → Type 0
KeyWord M = Bor (List ℕ) × M

-- the rows of a table, with their words as lists of bytes
abbrev pub rows_of : {M : Type 0} → List (KeyWord M) → List (List ℕ × M)
rows_of table = map (λ row. (row.0.now, row.1)) table

-- the first row of this word
abbrev pub row_of : {M : Type 0} → List ℕ → List (KeyWord M) → Option (KeyWord M)
row_of {M} word table = find (λ (row : KeyWord M). bytes_eq word row.0.now) table
