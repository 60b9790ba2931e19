use Rattle.std.proofs.Common.{false, subst, ap, ◌∙◌}
use Rattle.model.specs.{Access}
use Rattle.process.specs.{ProcessState, next_at}
use Rattle.bakery.specs.Leavings.{IsClosing}
use Rattle.bakery.proofs.Closings.{answered-closing}
use Rattle.bakery.proofs.OwnAccesses.{next-own}
use Rattle.bakery.proofs.leaving.Leaving.step.Goals as goal

pub returns-clause-access : goal.returns-clause-access
returns-clause-access c =
    c.step-access.ensures.access
    ∙ answered-closing c.self.inside.place c.lock.inside.memory.registers false c.self.invariant
    ∙ ap (λ (x : ProcessState). next_at x false) c.self.view_is

pub returns-clause-own : goal.returns-clause-own
returns-clause-own c =
    ap (λ (x : Access). x.owner) (returns-clause-access c)
    ∙ next-own c.args.self.now false (subst (λ (x : ProcessState). IsClosing x.doing) c.self.view_is c.self.invariant) c.requires.going
