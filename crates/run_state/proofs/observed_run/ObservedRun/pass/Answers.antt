use Rattle.std.proofs.Common.{◌+◌, sym, subst}
use Rattle.run_state.specs.{HasObserved, Passes, SnapshotState}
use Rattle.run_state.proofs.Keeps.{pass_observed}
use Rattle.run_state.proofs.observed_run.ObservedRun.pass.Goals as goal

pub returns-clause-observed : goal.returns-clause-observed
returns-clause-observed c = λ p past after passes h.
    let i = c.self.inside in
    let t : SnapshotState = record { setup = i.setup; kept = i.kept.items; entries = i.entries } in
    subst (λ m. HasObserved (record t { entries = t.entries + m }) after) (sym c.from.ensures)
    (pass_observed t p c.args.steps past after
    (subst (λ (x : SnapshotState). Passes x.setup p c.args.steps past after) (sym c.self.view_is) passes)
    (subst (λ (x : SnapshotState). HasObserved x past) (sym c.self.view_is) h))
