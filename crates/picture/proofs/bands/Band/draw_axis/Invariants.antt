use Rattle.std.proofs.Common.{◌≡◌, ◌++◌, drop, map}
use Rattle.markup.specs.{drawings, reading}
use Rattle.picture_layout.specs.{seen}
use Rattle.picture.specs.{axis}
use Rattle.picture.proofs.bands.Band.draw_axis.Given as goal

-- no line more, and what is drawn so far and what is drawn of those to come is all that is drawn
abbrev pub invariant-loop-column : goal.invariant-loop-column
invariant-loop-column l = record {
  read : reading l.markup ≡ reading l.fn.markup;
  draws : l.markup ++ drawings (axis l.self.subject l.self.layout.end l.from (map seen (drop l.column-index l.self.columns.items))) ≡ l.fn.markup ++ drawings (axis l.self.subject l.self.layout.end 52 (map seen l.self.columns.items));
}
