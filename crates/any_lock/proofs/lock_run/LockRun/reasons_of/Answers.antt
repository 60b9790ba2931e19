use Rattle.std.proofs.Common.{Option, Some, refl, subst, sym}
use Rattle.any_lock.specs.{AnyLockLaw, AreReasonsIf}
use Rattle.any_lock.proofs.lock_run.LockRun.reasons_of.Goals as goal

pub returns-in-Some-clause-reasons : goal.returns-in-Some-clause-reasons
returns-in-Some-clause-reasons c = λ past e p a m knows.
    subst (λ (l : Option AnyLockLaw). AreReasonsIf l (Some c.reasons.result) c.args.self.now.setup past e) (sym c.in-Some.is)
    (c.reasons.result, refl, c.reasons.ensures past e p a m knows)
