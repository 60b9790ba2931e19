use Rattle.sweeper.proofs.Onward.{rest_made}
use Rattle.sweeper.proofs.audited_run.AuditedRun.come_to_rest.Goals as goal

pub returns-clause-follows : goal.returns-clause-follows
returns-clause-follows c =
    rest_made c.args.self.now c.cut_off.new.self c.rounds.new.self c.args.value c.args.process c.limit.result c.cut_off.ensures.setup c.limit.ensures c.cut_off.ensures.follows c.rounds.ensures.follows
