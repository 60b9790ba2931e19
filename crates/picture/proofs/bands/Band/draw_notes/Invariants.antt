use Rattle.std.proofs.Common.{◌≡◌, ◌++◌, drop, take}
use Rattle.markup.specs.{drawings, reading, with_lines}
use Rattle.picture_layout.specs.{seen, texts}
use Rattle.picture.specs.{notes_shapes, seen_band}
use Rattle.picture.proofs.bands.Band.draw_notes.Given as goal

-- the lines before the present one; and what is drawn so far and what is drawn of those to come is all that is drawn
abbrev pub invariant-loop-place : goal.invariant-loop-place
invariant-loop-place l = record {
  read : reading l.markup ≡ with_lines (texts (take l.place l.column.lines.items)) (reading l.fn.markup);
  draws : l.markup ++ drawings (notes_shapes (seen_band l.self) (seen l.column) l.place (drop l.place l.column.lines.items)) ≡ l.fn.markup ++ drawings (notes_shapes (seen_band l.self) (seen l.column) 0 l.column.lines.items);
}
