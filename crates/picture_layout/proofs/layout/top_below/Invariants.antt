use Rattle.std.proofs.Common.{◌≡◌, ◌+◌, ◌*◌, ◌≤◌, map}
use Rattle.picture_layout.specs.{seen, seen_accesses, top_of}
use Rattle.picture_layout.proofs.layout.top_below.Given as goal

-- the lanes of the processes before the present one lie above this
abbrev pub invariant-loop-other : goal.invariant-loop-other
invariant-loop-other l = (l.top ≡ top_of (seen_accesses l.accesses) (map seen l.columns) l.other) × (l.top ≤ 20 + 110 * l.other)
