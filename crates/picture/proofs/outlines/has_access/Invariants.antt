use Rattle.std.proofs.Common.{◌≡◌, drop, map}
use Rattle.picture_layout.specs.{seen, shows_access}
use Rattle.picture.proofs.outlines.has_access.Given as goal

-- none of the columns before the present one shows one
abbrev pub invariant-loop-column : goal.invariant-loop-column
invariant-loop-column l = shows_access (map seen l.columns) l.process ≡ shows_access (map seen (drop l.column-index l.columns)) l.process
