use Rattle.std.proofs.Common.{◌≡◌, ◌*◌, None, replicate}
use Rattle.trace_accesses.proofs.rows.places_without_rows.Given as goal

-- the registers so far have their places
abbrev pub invariant-loop-register : goal.invariant-loop-register
invariant-loop-register l = l.places.items ≡ replicate (16 * l._register) None
