use Rattle.std.proofs.Common.{◌≡◌, ◌++◌, drop, map}
use Rattle.markup.specs.{drawings, reading}
use Rattle.picture.specs.{bars, lane_shapes, seen_band}
use Rattle.picture_layout.specs.{lane_in, seen}
use Rattle.picture.proofs.bands.Band.draw_lane.Given as goal

-- no line more, and what is drawn so far and what is drawn of those to come is all that is drawn
abbrev pub invariant-loop-column : goal.invariant-loop-column
invariant-loop-column l = record {
  read : reading l.markup ≡ reading l.fn.markup;
  draws : l.markup ++ drawings (bars (lane_in l.self.layout l.process) l.process l.self.layout.end l.stage l.from (map seen (drop l.column-index l.self.columns.items))) ≡ l.fn.markup ++ drawings (lane_shapes (seen_band l.self) l.process);
}
