use Rattle.std.proofs.Common.{◌≡◌, ◌++◌, drop, map}
use Rattle.markup.specs.{drawings, reading}
use Rattle.picture_layout.specs.{seen}
use Rattle.picture.specs.{first_inside, shades}
use Rattle.picture.proofs.bands.Band.draw_shades.Given as goal

-- no line more, and what is drawn so far and what is drawn of those to come is all that is drawn
abbrev pub invariant-loop-column : goal.invariant-loop-column
invariant-loop-column l = record {
  read : reading l.markup ≡ reading l.fn.markup;
  draws : l.markup ++ drawings (shades l.self.layout.chain l.self.layout.end l.from (map seen (drop l.column-index l.self.columns.items))) ≡ l.fn.markup ++ drawings (shades l.self.layout.chain l.self.layout.end (first_inside l.self.before) (map seen l.self.columns.items));
}
