use Rattle.std.proofs.Common.{◌≡◌, ◌++◌, drop, map}
use Rattle.markup.specs.{drawings, reading}
use Rattle.picture_layout.specs.{seen}
use Rattle.picture.specs.{wave_from}
use Rattle.picture.proofs.waves.draw_changes.Given as goal

-- no line more, and what is drawn so far and what is drawn of those to come is all that is drawn
abbrev pub invariant-loop-place : goal.invariant-loop-place
invariant-loop-place l = record {
  read : reading l.markup ≡ reading l.fn.markup;
  draws : l.markup ++ drawings (wave_from l.row l.y l.end (map seen (drop l.place l.columns))) ≡ l.fn.markup ++ drawings (wave_from l.row l.y l.end (map seen l.columns));
}
