use Rattle.std.proofs.Common.{◌≡◌, drop, map}
use Rattle.picture_layout.specs.{seen, seen_waves, waves_begun}
use Rattle.picture_layout.proofs.waves.begin_waves.Given as goal

-- the waves of all columns, from those of the columns before the present one
abbrev pub invariant-loop-column : goal.invariant-loop-column
invariant-loop-column l = waves_begun (seen_waves l.fn.waves) (map seen l.columns) ≡ waves_begun (seen_waves l.waves) (map seen (drop l.column-index l.columns))
