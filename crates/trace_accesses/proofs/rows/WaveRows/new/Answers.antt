use Rattle.trace_accesses.proofs.RowFacts.{are-none}
use Rattle.trace_accesses.proofs.rows.WaveRows.new.Goals as goal

pub invariant_of-result : goal.invariant_of-result
invariant_of-result c = are-none c.args.registers _ c.requires (λ i. record { places = c.in_ok-places.ensures i; count = 0 })
