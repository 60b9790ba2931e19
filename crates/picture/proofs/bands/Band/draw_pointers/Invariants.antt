use Rattle.std.proofs.Common.{◌≡◌, ◌++◌, drop, map, flat_map}
use Rattle.markup.specs.{drawings, reading}
use Rattle.picture_layout.specs.{seen_accesses}
use Rattle.picture.specs.{outline_of, seen_band, seen_line}
use Rattle.picture.proofs.bands.Band.draw_pointers.Given as goal

-- no line more, and what is drawn so far and what is drawn of those to come is all that is drawn
abbrev pub invariant-loop-line : goal.invariant-loop-line
invariant-loop-line l = record {
  read : reading l.markup ≡ reading l.fn.markup;
  draws : l.markup ++ drawings (flat_map (outline_of (seen_band l.self) (seen_accesses l.accesses) l.verdict.bad l.edge) (map seen_line (drop l.line-index l.verdict.lines.items)))
      ≡ l.fn.markup ++ drawings (flat_map (outline_of (seen_band l.self) (seen_accesses l.accesses) l.verdict.bad l.edge) (map seen_line l.verdict.lines.items));
}
