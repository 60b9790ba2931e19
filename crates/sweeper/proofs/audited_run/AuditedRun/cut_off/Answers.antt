use Rattle.sweeper.proofs.Onward.{cut_made}
use Rattle.sweeper.proofs.audited_run.AuditedRun.cut_off.Goals as goal

pub returns-clause-follows : goal.returns-clause-follows
returns-clause-follows c =
    cut_made c.args.self.now c.make.new.self c.walk.new.self c.make-2.new.self c.args.value c.args.process c.limit.result c.make.ensures.setup c.limit.ensures c.make.ensures.follows c.walk.ensures.follows c.make-2.ensures.follows
