use Rattle.std.proofs.Common.{◌≡◌, ◌<◌, sym, ap, subst, ◌∙◌}
use Rattle.std.specs.Prelude.{slice_index_or}
use Rattle.run_state.specs.{HasObserved, SnapshotState, kept}
use Rattle.run_state.proofs.Keeps.{kept_found}
use Rattle.run_state.proofs.observed_run.ObservedRun.kept.Goals as goal

pub returns : goal.returns
returns c = λ past h.
    let i = c.self.inside in
    let t : SnapshotState = record { setup = i.setup; kept = i.kept.items; entries = i.entries } in
    let found : c.index.result.now ≡ slice_index_or t.kept c.args.process c.index.result.now = c.index.ensures ∙ ap (λ k. slice_index_or t.kept k c.index.result.now) c.from.ensures in
    kept_found t past c.args.process c.index.result.now (subst (λ (x : SnapshotState). HasObserved x past) (sym c.self.view_is) h) (subst (λ (x : SnapshotState). c.args.process < x.setup.processes) (sym c.self.view_is) c.requires) found
    ∙ ap (λ (x : SnapshotState). kept x.setup c.args.process past) c.self.view_is
