use Rattle.std.proofs.Common.{◌≡◌, ◌++◌}
use Rattle.markup.specs.{drawings, reading}
use Rattle.picture_layout.specs.{seen_accesses}
use Rattle.picture.specs.{for_each, lane_accesses, seen_band}
use Rattle.picture.proofs.bands.Band.draw_all_accesses.Given as goal

-- no line more, and what is drawn of the processes before the present one
abbrev pub invariant-loop-process : goal.invariant-loop-process
invariant-loop-process l = record {
  read : reading l.markup ≡ reading l.fn.markup;
  draws : l.markup ≡ l.fn.markup ++ drawings (for_each (lane_accesses (seen_band l.self) (seen_accesses l.accesses)) l.process);
}
