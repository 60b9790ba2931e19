use Rattle.std.proofs.Common.{◌≡◌, drop, map}
use Rattle.picture_layout.specs.{seen, seen_waves, waves_after}
use Rattle.picture_layout.proofs.waves.pass_waves.Given as goal

-- the waves after all columns, from those after the columns before the present one
abbrev pub invariant-loop-column : goal.invariant-loop-column
invariant-loop-column l = waves_after (seen_waves l.fn.waves) (map seen l.columns) ≡ waves_after (seen_waves l.waves) (map seen (drop l.column-index l.columns))
