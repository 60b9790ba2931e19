use Rattle.std.proofs.Common.{◌≡◌, flat_map, map}
use Rattle.picture_layout.specs.{drawn_apart, seen, reported_in}
use Rattle.picture_layout.proofs.Lists.{first_mapped}
use Rattle.picture_layout.proofs.placing.draw_apart.Given as goal

-- the lines of the columns are unchanged, and the columns before the present one are drawn apart
abbrev pub invariant-loop-column : goal.invariant-loop-column
invariant-loop-column l = (flat_map reported_in l.columns ≡ flat_map reported_in l.fn.columns) × (map seen l.columns ≡ first_mapped (drawn_apart l.old l.new) l.column-index (map seen l.fn.columns))
