-- Looking for a key word in a table.
use Rattle.std.proofs.Common.{refl, true, false, ℕ, Some, List, [], ◌∷◌, ◌≡◌, find, option_map, cond}
use Rattle.std.specs.Map.{lookup}
use Rattle.std.specs.Str.{bytes_eq}
use Rattle.files.specs.{KeyWord, rows_of}

-- the meaning in the first row that has the word
pub by_row : {M : Type 0} (word : List ℕ) (table : List (KeyWord M)) → option_map (λ (row : KeyWord M). row.1) (find (λ (row : KeyWord M). bytes_eq word row.0.now) table) ≡ lookup (bytes_eq word) (rows_of table)
by_row word [] = refl
by_row {M} word (row ∷ rows) = elim (bytes_eq word row.0.now) as (λ b. option_map (λ (r : KeyWord M). r.1) (cond b (Some row) (find (λ (r : KeyWord M). bytes_eq word r.0.now) rows)) ≡ cond b (Some row.1) (lookup (bytes_eq word) (rows_of rows)))
    [ true ↦ refl | false ↦ by_row word rows ]
