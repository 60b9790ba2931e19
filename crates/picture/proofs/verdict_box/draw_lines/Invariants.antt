use Rattle.std.proofs.Common.{◌≡◌, ◌++◌, drop, map, take}
use Rattle.markup.specs.{drawings, reading, with_lines}
use Rattle.picture.specs.{lines_from, seen_line}
use Rattle.picture.proofs.VerdictLines.{titles_in}
use Rattle.picture.proofs.verdict_box.draw_lines.Given as goal

-- the lines before the present one; and what is drawn so far and what is drawn of those to come is all that is drawn
abbrev pub invariant-loop-place : goal.invariant-loop-place
invariant-loop-place l = record {
  read : reading l.markup ≡ with_lines (titles_in (take l.place l.verdict.lines.items)) (reading l.fn.markup);
  draws : l.markup ++ drawings (lines_from l.edge l.verdict.source l.top l.place (map seen_line (drop l.place l.verdict.lines.items))) ≡ l.fn.markup ++ drawings (lines_from l.edge l.verdict.source l.top 0 (map seen_line l.verdict.lines.items));
}
