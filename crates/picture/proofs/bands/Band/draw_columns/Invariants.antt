use Rattle.std.proofs.Common.{◌≡◌, ◌++◌, drop, map, flat_map, take}
use Rattle.markup.specs.{drawings, reading, with_lines}
use Rattle.picture_layout.specs.{seen, reported_in}
use Rattle.picture.specs.{column_shapes, seen_band}
use Rattle.picture.proofs.bands.Band.draw_columns.Given as goal

-- the lines of the columns before the present one; and what is drawn so far and what is drawn of those to come is all that is drawn
abbrev pub invariant-loop-column : goal.invariant-loop-column
invariant-loop-column l = record {
  read : reading l.markup ≡ with_lines (flat_map reported_in (take l.column-index l.self.columns.items)) (reading l.fn.markup);
  draws : l.markup ++ drawings (flat_map (column_shapes (seen_band l.self)) (map seen (drop l.column-index l.self.columns.items))) ≡ l.fn.markup ++ drawings (flat_map (column_shapes (seen_band l.self)) (map seen l.self.columns.items));
}
