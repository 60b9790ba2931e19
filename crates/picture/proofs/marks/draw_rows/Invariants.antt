use Rattle.std.proofs.Common.{◌≡◌, ◌++◌, drop, map}
use Rattle.markup.specs.{drawings, reading}
use Rattle.picture_layout.specs.{wording}
use Rattle.picture.specs.{rows_shapes}
use Rattle.picture.proofs.marks.draw_rows.Given as goal

-- no line more, and what is drawn so far and what is drawn of those to come is all that is drawn
abbrev pub invariant-loop-number : goal.invariant-loop-number
invariant-loop-number l = record {
  read : reading l.markup ≡ reading l.fn.markup;
  draws : l.markup ++ drawings (rows_shapes l.is_alone l.place l.is_refusal l.at l.number (map wording (drop l.number l.column.rows.items))) ≡ l.fn.markup ++ drawings (rows_shapes l.is_alone l.place l.is_refusal l.at 0 (map wording l.column.rows.items));
}
