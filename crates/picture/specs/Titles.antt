-- The title of a page.
use Rattle.std.specs.Prelude.{ℕ, List, [], ◌∷◌, codes, cond, drop, map, nat_eq, take, Option, None, Some}
use Rattle.std.specs.Cmp.Lexicographic.{pointwise}
use Rattle.bstr.specs.Text.{lines_of, without_terminator}

-- the text of a comment, which begins with `# `
abbrev pub comment_of : List ℕ → Option (List ℕ)
comment_of line = cond (pointwise nat_eq (take 2 line) (codes "# ")) (Some (drop 2 line)) None

-- the first comment among lines, or else the heading
abbrev pub comment_or : List ℕ → List (List ℕ) → List ℕ
comment_or heading [] = heading
comment_or heading (line ∷ lines) = elim (comment_of line) [ Some comment ↦ comment | None ↦ comment_or heading lines ]

-- the title of a page that lists these lines under this heading
abbrev pub title_of : List ℕ → List ℕ → List ℕ
title_of heading printed = comment_or heading (map without_terminator (lines_of printed))
