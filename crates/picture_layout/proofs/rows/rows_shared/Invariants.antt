use Rattle.std.proofs.Common.{◌≡◌, filter_map, map, take}
use Rattle.picture_layout.specs.{row_shared, wording}
use Rattle.picture_layout.proofs.rows.rows_shared.Given as goal

-- the rows of the lines before the present one
abbrev pub invariant-loop-line : goal.invariant-loop-line
invariant-loop-line l = map wording l.rows.items ≡ filter_map row_shared (take l.line-index l.lines)
