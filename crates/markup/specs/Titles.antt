-- The titles of marks, read back from markup.
use Rattle.std.specs.Prelude.{ℕ, Bool, true, false, ◌==◌, not, ◌&&◌, if◌then◌else◌, cond, is_some, List, [], ◌∷◌, ◌++◌, codes, Option, None, Some}
use Rattle.std.specs.Option.{option_map}
use Rattle.markup.specs.Escaping.{behind, unescaped}

-- markup that begins with a byte, if the markup after the byte is cut already
abbrev pub cut_at : ℕ → List ℕ × List (List ℕ) → List ℕ × List (List ℕ)
cut_at b parts = if b == 60 then ([], parts.0 ∷ parts.1) else (b ∷ parts.0, parts.1)

-- markup, cut at each `<`: the bytes before the first `<`, and those after each
abbrev pub cut : List ℕ → List ℕ × List (List ℕ)
cut [] = ([], [])
cut (b ∷ markup) = cut_at b (cut markup)

-- the bytes after each `<`, up to the next
abbrev pub tags_of : List ℕ → List (List ℕ)
tags_of markup = (cut markup).1

-- the bytes in a tag up to its `>`, if it has one
abbrev pub inner : List ℕ → Option (List ℕ)
inner [] = None
inner (b ∷ tag) = if b == 62 then Some [] else option_map (λ rest. b ∷ rest) (inner tag)

-- whether a tag is that of a mark
abbrev pub is_mark : List ℕ → Bool
is_mark tag = is_some (behind (codes "g class=\"m\"") tag)

-- a text that was found, read back
abbrev pub read_title : Option (List ℕ) → List (List ℕ)
read_title None = []
read_title (Some text) = unescaped text ∷ []

-- the text of the first of these tags, if it is a title
abbrev pub first_title : List (List ℕ) → List (List ℕ)
first_title [] = []
first_title (tag ∷ tags) = read_title (behind (codes "title>") tag)

-- the titles that follow tags of marks
abbrev pub titles : List (List ℕ) → List (List ℕ)
titles [] = []
titles (tag ∷ tags) = cond (is_mark tag) (first_title tags) [] ++ titles tags

-- the lines of markup: the titles of its marks, in their order
abbrev pub lines_in : List ℕ → List (List ℕ)
lines_in markup = titles (tags_of markup)

-- whether a tag, however it continues, is neither that of a mark nor a title
abbrev pub is_no_mark : List ℕ → Bool
is_no_mark (a ∷ b ∷ c ∷ tag) = not (a == 116) && not ((a == 103) && (c == 99))
is_no_mark _ = false

-- whether a tag is whole, and neither that of a mark nor a title: however it continues, it is read as it is
abbrev pub is_settled : List ℕ → Bool
is_settled tag = is_no_mark tag && is_some (inner tag)

-- whether the reading of markup stays the same, however the markup continues
abbrev pub is_at_rest : List (List ℕ) → Bool
is_at_rest [] = true
is_at_rest (tag ∷ []) = is_settled tag
is_at_rest (tag ∷ next ∷ tags) = is_at_rest (next ∷ tags)
