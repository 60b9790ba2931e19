use Rattle.std.proofs.Common.{◌≡◌, ◌++◌, drop, map, flat_map}
use Rattle.markup.specs.{drawings, reading}
use Rattle.picture_layout.specs.{seen}
use Rattle.picture.specs.{links, seen_band}
use Rattle.picture.proofs.bands.Band.draw_all_links.Given as goal

-- no line more, and what is drawn so far and what is drawn of those to come is all that is drawn
abbrev pub invariant-loop-column : goal.invariant-loop-column
invariant-loop-column l = record {
  read : reading l.markup ≡ reading l.fn.markup;
  draws : l.markup ++ drawings (flat_map (links (seen_band l.self)) (map seen (drop l.column-index l.self.columns.items))) ≡ l.fn.markup ++ drawings (flat_map (links (seen_band l.self)) (map seen l.self.columns.items));
}
