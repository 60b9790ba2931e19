-- The lines of a verdict, one after the other.
use Rattle.std.proofs.Common.{◌≡◌, ℕ, ◌+◌, ◌<◌, List, [], ◌∷◌, ◌++◌, drop, flat_map, get_or, length, map, take, ap, sym, ◌∙◌}
use Rattle.std.proofs.lemmas.List.{map-append, take_more}
use Rattle.markup.specs.{Reading, Shape, with_lines}
use Rattle.picture.specs.{SeenLine, VerdictLine, lines_from, lines_height, seen_line, title_of, verdict_line}
use Rattle.picture.proofs.Drawn.{drop_next}
use Rattle.picture.proofs.Reportings.{lines_more}

-- the titles of some lines
abbrev pub titles_in : List VerdictLine → List (List ℕ)
titles_in lines = map title_of (map seen_line lines)

module _ (lines : List VerdictLine) (k : ℕ) (line : VerdictLine) (within : k < length lines) (here : line ≡ get_or lines k line) where
  -- what each line adds
  pub each_line : (shapes : SeenLine → List Shape) → flat_map shapes (map seen_line (drop k lines)) ≡ shapes (seen_line line) ++ flat_map shapes (map seen_line (drop (k + 1) lines))
  each_line shapes = ap (λ ls. flat_map shapes (map seen_line ls)) (drop_next lines k line within here)

  -- the lines in the box
  pub box_next : (edge source top : ℕ) →
      lines_from edge source top k (map seen_line (drop k lines)) ≡ verdict_line edge source (top + 36 + lines_height k) (seen_line line) ++ lines_from edge source top (k + 1) (map seen_line (drop (k + 1) lines))
  box_next edge source top = ap (λ ls. lines_from edge source top k (map seen_line ls)) (drop_next lines k line within here)

  -- a title more
  pub title_more : (old now new : Reading) → now ≡ with_lines (titles_in (take k lines)) old → new ≡ with_lines (title_of (seen_line line) ∷ []) now → new ≡ with_lines (titles_in (take (k + 1) lines)) old
  title_more old now new before is =
      lines_more old now new (titles_in (take k lines)) (title_of (seen_line line) ∷ []) (titles_in (take (k + 1) lines)) before is
      (ap titles_in (take_more lines k line within) ∙ ap (map title_of) (map-append seen_line (take k lines) (get_or lines k line ∷ [])) ∙ map-append title_of (map seen_line (take k lines)) (seen_line (get_or lines k line) ∷ [])
      ∙ ap (λ (last : VerdictLine). titles_in (take k lines) ++ title_of (seen_line last) ∷ []) (sym here))
