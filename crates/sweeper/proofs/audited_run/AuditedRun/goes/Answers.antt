use Rattle.std.proofs.Common.{◌≡◌, ◌<◌, refl, sym, ap, ◌∙◌, arith}
use Rattle.std.specs.List.{list_any, range_with_len}
use Rattle.model.specs.declared.events.Event.TheVariants.{Step}
use Rattle.sweeper.specs.{is_accepted}
use Rattle.sweeper.proofs.Going.{any_here, none_more}
use Rattle.sweeper.proofs.audited_run.AuditedRun.goes.Goals as goal

pub loop-process-init : goal.loop-process-init
loop-process-init c = λ events follows. refl

pub returns-then-accepts : goal.returns-then-accepts
returns-then-accepts c = λ events follows.
    let below : c.loop-process.process < c.args.self.now.core.setup.processes = omega (arith, c.loop-process-test.true, c.processes-process-end.ensures) in
    sym (any_here (λ p. is_accepted c.args.self.now.core.setup events (Step p c.args.value)) c.loop-process.process c.args.self.now.core.setup.processes below (sym (c.accepts.ensures events follows) ∙ c.if-accepts.true))

pub loop-process-preserved : goal.loop-process-preserved
loop-process-preserved c = λ events follows.
    none_more (λ p. is_accepted c.args.self.now.core.setup events (Step p c.args.value)) c.loop-process.process (c.loop-process.invariant events follows) (sym (c.accepts.ensures events follows) ∙ c.if-accepts.false)

pub returns : goal.returns
returns c = λ events follows.
    let all : c.loop-process.process ≡ c.args.self.now.core.setup.processes = omega (arith, c.loop-process-test.false, c.loop-process.auto.process-end, c.processes-process-end.ensures) in
    sym (ap (λ n. list_any (λ p. is_accepted c.args.self.now.core.setup events (Step p c.args.value)) (range_with_len 0 n)) (sym all) ∙ c.loop-process.invariant events follows)
