use Rattle.std.proofs.Common.{◌≡◌, drop, map}
use Rattle.picture_layout.specs.{open_after, seen}
use Rattle.picture_layout.proofs.open_accesses.process_after.Given as goal

-- the open access after all columns, from the one before the present column
abbrev pub invariant-loop-column : goal.invariant-loop-column
invariant-loop-column l = open_after l.process l.fn.before (map seen l.columns) ≡ open_after l.process l.now (map seen (drop l.column-index l.columns))
