use Rattle.std.proofs.Common.{subst, sym, ap, ◌∙◌}
use Rattle.process.specs.{ProcessState, Activity, last_access, state_at}
use Rattle.process.specs.Working.{IsWorking, RunsAt}
use Rattle.process.proofs.LastAccess.{last-shown}
use Rattle.process.proofs.process.Process.last_access.Goals as goal

pub returns-in-Runs : goal.returns-in-Runs
returns-in-Runs c =
    let k = c.self.inside.called in
    let cur = c.self.inside.cursor in
    let runs : RunsAt k cur = subst (λ (w : Activity). IsWorking k w cur) c.in-Runs.is c.self.invariant.working in
    c.last_access.ensures ∙ last-shown k.call k.part cur runs.at
    ∙ ap (λ (w : Activity). let x : ProcessState = state_at k w cur in last_access x.setup x.process x.doing) (sym c.in-Runs.is)
    ∙ ap (λ (x : ProcessState). last_access x.setup x.process x.doing) c.self.view_is
