use Rattle.std.proofs.Common.{◌≡◌, Ok, subst}
use Rattle.plain_store.specs.{Setup, checked}
use Rattle.plain_store.proofs.GoodSetups.{few-processes}
use Rattle.record_accesses.proofs.openings.Openings.has_process.Goals as goal

pub returns-clause-bounded : goal.returns-clause-bounded
returns-clause-bounded c = few-processes c.args.self.now (subst (λ (s : Setup). checked s ≡ Ok tt) c.self.view_is c.self.invariant.0)
