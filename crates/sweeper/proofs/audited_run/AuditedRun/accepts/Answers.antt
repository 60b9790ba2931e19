use Rattle.std.proofs.Common.{◌≡◌, List, subst}
use Rattle.model.specs.{Event}
use Rattle.sweeper.specs.{Follows, RunnerState, is_accepted}
use Rattle.sweeper.proofs.Making.{accepts_is}
use Rattle.sweeper.proofs.audited_run.AuditedRun.accepts.Goals as goal

pub returns : goal.returns
returns c =
    let i = c.self.inside in
    let old : RunnerState = record { core = i.core; auditor = i.auditor; taken = i.taken } in
    let family : RunnerState → Type 0 = λ r. (events : List Event) → Follows r events → c.is_none.result ≡ is_accepted r.core.setup events c.args.event.now in
    subst family c.self.view_is (accepts_is old c.args.event.now c.refusal.result c.is_none.result c.refusal.ensures.refused c.is_none.ensures)
