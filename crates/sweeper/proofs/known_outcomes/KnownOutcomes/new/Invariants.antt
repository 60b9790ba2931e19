use Rattle.std.proofs.Common.{◌-◌, length}
use Rattle.sweeper.specs.{AreUnknown}
use Rattle.sweeper.proofs.known_outcomes.KnownOutcomes.new.Given as goal

abbrev pub invariant-outcomes : goal.invariant-outcomes
invariant-outcomes l = AreUnknown l.setup l.known.items

abbrev pub decreases-outcomes : goal.decreases-outcomes
decreases-outcomes l = 8 - length l.known.items
