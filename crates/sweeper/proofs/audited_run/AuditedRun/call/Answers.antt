use Rattle.std.proofs.Common.{sym, ◌∙◌}
use Rattle.sweeper.proofs.Onward.{call_made, call_refused}
use Rattle.sweeper.proofs.audited_run.AuditedRun.call.Goals as goal

pub returns-then-not-make-clause-run : goal.returns-then-not-make-clause-run
returns-then-not-make-clause-run c =
    call_refused c.args.self.now c.make.new.self c.args.value c.args.process c.args.command.now (c.make.ensures.unchanged c.if-not-make.true) (λ events follows. sym c.if-not-make.true ∙ c.make.ensures.accepted events follows)

pub returns-clause-run : goal.returns-clause-run
returns-clause-run c =
    call_made c.args.self.now c.make.new.self c.walk.new.self c.args.value c.args.process c.limit.result c.args.command.now c.accepts.result c.make.ensures.setup c.walk.ensures.setup c.limit.ensures
    (λ events follows. sym c.if-not-make.false ∙ c.make.ensures.accepted events follows) c.make.ensures.follows c.walk.ensures.follows c.accepts.ensures
