use Rattle.std.proofs.Common.{sym, ◌∙◌}
use Rattle.any_lock.proofs.Breaks.{at_access}
use Rattle.any_lock.proofs.lock_run.LockRun.after.Goals as goal

pub returns-in-Some-clause-laws : goal.returns-in-Some-clause-laws
returns-in-Some-clause-laws c = λ past e p a m knows. at_access c.args.self.now.setup past e c.in-Some._refusal (sym (c.refusal_of_access.ensures past e p a knows) ∙ c.in-Some.is)
