use Rattle.std.proofs.Common.{◌≡◌, ◌++◌, drop, map}
use Rattle.markup.specs.{drawings, reading}
use Rattle.picture_layout.specs.{seen, seen_wave}
use Rattle.picture.specs.{waves_from}
use Rattle.picture.proofs.bands.Band.draw_waves.Given as goal

-- no line more, and what is drawn so far and what is drawn of those to come is all that is drawn
abbrev pub invariant-loop-row : goal.invariant-loop-row
invariant-loop-row l = record {
  read : reading l.markup ≡ reading l.fn.markup;
  draws : l.markup ++ drawings (waves_from l.self.layout (map seen l.self.columns.items) l.row (map seen_wave (drop l.row l.accesses.waves.items))) ≡ l.fn.markup ++ drawings (waves_from l.self.layout (map seen l.self.columns.items) 0 (map seen_wave l.accesses.waves.items));
}
