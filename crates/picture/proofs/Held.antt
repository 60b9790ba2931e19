-- What a page holds back, from line to line.
use Rattle.std.proofs.Common.{◌≡◌, ℕ, List, [], ◌∷◌, ◌++◌, flat_map, Option, Some, ap, sym, ◌∙◌, append-nil, append_assoc}
use Rattle.std.proofs.lemmas.Grind.{flat_map-append}
use Rattle.picture.specs.{lines_of}
use Rattle.picture_layout.specs.{Column, reported_in}

-- the lines, if a column is not placed yet
pub one_pending : (columns : List Column) (pending : Option Column) (column : Column) → pending ≡ Some column → lines_of columns pending ≡ flat_map reported_in columns ++ reported_in column
one_pending columns pending column one = ap (lines_of columns) one ∙ ap (λ l. flat_map reported_in columns ++ l) (append-nil (reported_in column))

-- the lines after that column is put after the others
pub put_last : (columns new : List Column) (column put : Column) → new ≡ columns ++ put ∷ [] → reported_in put ≡ reported_in column → flat_map reported_in new ≡ flat_map reported_in columns ++ reported_in column
put_last columns new column put is same =
    ap (flat_map reported_in) is ∙ flat_map-append reported_in columns (put ∷ []) ∙ ap (λ l. flat_map reported_in columns ++ l) (append-nil (reported_in put) ∙ same)

-- one more line joins the column that is not placed yet
pub joins_pending : (columns : List Column) (old new : Option Column) (had has : Column) (line : List ℕ) → old ≡ Some had → new ≡ Some has → reported_in has ≡ reported_in had ++ line ∷ [] → lines_of columns new ≡ lines_of columns old ++ line ∷ []
joins_pending columns old new had has line was is more =
    one_pending columns new has is ∙ ap (λ l. flat_map reported_in columns ++ l) more ∙ sym (append_assoc (flat_map reported_in columns) (reported_in had) (line ∷ [])) ∙ ap (λ l. l ++ line ∷ []) (sym (one_pending columns old had was))

-- or it begins a column of its own, once the others are placed
pub alone_pending : (columns : List Column) (full before : List (List ℕ)) (column : Column) (line : List ℕ) → full ++ flat_map reported_in columns ≡ before → reported_in column ≡ line ∷ [] → full ++ lines_of columns (Some column) ≡ before ++ line ∷ []
alone_pending columns full before column line was reported = sym (append_assoc full (flat_map reported_in columns) (reported_in column ++ [])) ∙ (λ i. was i ++ (append-nil (reported_in column) ∙ reported) i)
