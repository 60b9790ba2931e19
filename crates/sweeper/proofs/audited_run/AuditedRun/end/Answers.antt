use Rattle.sweeper.specs.{goes}
use Rattle.sweeper.proofs.audited_run.AuditedRun.end.Goals as goal

pub returns-clause-run : goal.returns-clause-run
returns-clause-run c = λ events follows.
    c.calls.ensures.run (record { events = events; stuck = goes c.args.self.now.core.setup c.args.value events }) (record { follows = follows; stuck = c.goes-stuck.ensures events follows })
