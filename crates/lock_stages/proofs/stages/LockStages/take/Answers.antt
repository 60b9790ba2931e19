use Rattle.std.proofs.Common.{sym, subst}
use Rattle.lock_stages.specs.{HasObserved, StagesState}
use Rattle.lock_stages.proofs.Observed.{observes_on}
use Rattle.lock_stages.proofs.stages.LockStages.take.Goals as goal

pub returns-clause-observed : goal.returns-clause-observed
returns-clause-observed c = λ past observed.
    let i = c.self.inside in
    let k : StagesState = record { processes = i.processes; states = i.states; entries = i.entries } in
    observes_on k c.from.result c.args.process c.args.accesses c.args.marks.now c.state-state.result c.take.new.self past
    c.self.invariant.1 c.from.ensures c.requires.process (c.state-state.ensures past observed) c.take.ensures
    (subst (λ (m : StagesState). HasObserved m past) (sym c.self.view_is) observed)
