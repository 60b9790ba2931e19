use Rattle.std.proofs.Common.{Some, None, cond, sym, subst, ◌∙◌}
use Rattle.model.specs.declared.events.Event.TheVariants.{Step}
use Rattle.model.specs.declared.refusals.Refusal.TheVariants.{NotRunning}
use Rattle.world.specs.{CoreRefuses}
use Rattle.world.proofs.CoreRefused.{refused-beyond, refused-step}
use Rattle.world.proofs.cores.Core.step_refusal.Goals as goal

pub returns-in-Some-clause-refused : goal.returns-in-Some-clause-refused
returns-in-Some-clause-refused c = λ flick.
    subst (λ b. CoreRefuses c.args.self.now (Step c.args.process flick) (cond b None (Some NotRunning))) (sym c.goes.ensures ∙ c.if-goes.true)
    (refused-step c.args.self.now c.args.process flick c.in-Some.seat.now (sym c.in-Some.ensures))

pub returns-in-Some-2-clause-refused : goal.returns-in-Some-2-clause-refused
returns-in-Some-2-clause-refused c = λ flick.
    subst (λ b. CoreRefuses c.args.self.now (Step c.args.process flick) (cond b None (Some NotRunning))) (sym c.goes.ensures ∙ c.if-goes.false)
    (refused-step c.args.self.now c.args.process flick c.in-Some.seat.now (sym c.in-Some.ensures))

pub returns-in-None-clause-refused : goal.returns-in-None-clause-refused
returns-in-None-clause-refused c = λ flick. refused-beyond c.args.self.now (Step c.args.process flick) (sym c.in-None.ensures)
