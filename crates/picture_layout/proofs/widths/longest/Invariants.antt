use Rattle.std.proofs.Common.{◌≡◌, drop, map, max}
use Rattle.picture_layout.specs.{longest_row, wording}
use Rattle.picture_layout.proofs.widths.longest.Given as goal

-- the longest of the rows is the longest before the present one, or one from there on
abbrev pub invariant-loop-row : goal.invariant-loop-row
invariant-loop-row l = longest_row (map wording l.rows) ≡ max l.longest (longest_row (map wording (drop l.row-index l.rows)))
