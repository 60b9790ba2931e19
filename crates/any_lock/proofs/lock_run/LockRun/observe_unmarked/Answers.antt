use Rattle.std.proofs.Common.{◌∙◌}
use Rattle.any_lock.proofs.lock_run.LockRun.observe_unmarked.Goals as goal

pub returns-clause-knows : goal.returns-clause-knows
returns-clause-knows c = λ past e p a m knows none. c.make.ensures.knows past e p (a ∙ c.in-Some-access.is) m knows
