use Rattle.std.proofs.Common.{◌≡◌, ◌++◌, drop, map}
use Rattle.markup.specs.{drawings, reading}
use Rattle.picture_layout.specs.{lane_in, seen, seen_accesses}
use Rattle.picture.specs.{accesses_from, lane_accesses, seen_band}
use Rattle.picture.proofs.bands.Band.draw_accesses.Given as goal

-- no line more, and what is drawn so far and what is drawn of those to come is all that is drawn
abbrev pub invariant-loop-column : goal.invariant-loop-column
invariant-loop-column l = record {
  read : reading l.markup ≡ reading l.fn.markup;
  draws : l.markup ++ drawings (accesses_from (lane_in l.self.layout l.process) l.process l.self.layout.end l.before l.from (map seen (drop l.column-index l.self.columns.items))) ≡ l.fn.markup ++ drawings (lane_accesses (seen_band l.self) (seen_accesses l.accesses) l.process);
}
