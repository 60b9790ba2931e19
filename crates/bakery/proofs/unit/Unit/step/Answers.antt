use Rattle.std.proofs.Common.{subst, ap, ◌∙◌}
use Rattle.model.specs.{Access}
use Rattle.process.specs.{ProcessState, next_at}
use Rattle.bakery.specs.Leavings.{IsClosing}
use Rattle.bakery.proofs.Closings.{answered-closing}
use Rattle.bakery.proofs.OwnAccesses.{next-own}
use Rattle.bakery.proofs.unit.Unit.step.Goals as goal
use Rattle.bakery.proofs.unit.Unit.step.Goals.{in-Choosing, in_default}

pub returns-clause-access : goal.returns-clause-access
returns-clause-access c =
    elim c.match-next.branch [
      | in-Choosing w ↦ w.access-is ∙ w.step-access.ensures.access ∙ answered-closing c.self.inside.place c.lock.inside.memory.registers c.args.flick c.self.invariant
      | in_default w ↦ w.access-is ∙ w.step-access-in_default.ensures.access ∙ answered-closing c.self.inside.place c.versions.inside.memory.registers c.args.flick c.self.invariant
    ]
    ∙ ap (λ (x : ProcessState). next_at x c.args.flick) c.self.view_is

pub returns-clause-own : goal.returns-clause-own
returns-clause-own c =
    ap (λ (x : Access). x.owner) (returns-clause-access c)
    ∙ next-own c.args.self.now c.args.flick (subst (λ (x : ProcessState). IsClosing x.doing) c.self.view_is c.self.invariant) c.requires.going
