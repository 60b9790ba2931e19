use Rattle.model.proofs.Width.{is_good}
use Rattle.history_laws.proofs.ReadStamps.{history_unchanged, stamps_count}
use Rattle.history_laws.proofs.data.stamps_count_the_changes.Goals as goal

pub returns-clause-stamps : goal.returns-clause-stamps
returns-clause-stamps c = λ s good events given p stamp below read. stamps_count s good events given p stamp below read

pub returns-clause-history : goal.returns-clause-history
returns-clause-history c = λ s good events event e is p inside other. history_unchanged s (is_good s good) events event e is p inside other
