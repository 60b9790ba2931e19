use Rattle.std.proofs.Common.{◌≡◌, ◌∷◌, ◌<◌, ◌+◌, sym, ap, subst, ◌∙◌}
use Rattle.std.specs.Prelude.{slice_index_or}
use Rattle.run_state.specs.{HasObserved, SnapshotState, ReportsNumber}
use Rattle.run_state.proofs.Keeps.{state_with, step_observed}
use Rattle.run_state.proofs.observed_run.ObservedRun.step.Goals as goal

pub returns-clause-observed : goal.returns-clause-observed
returns-clause-observed c = λ past e mine o m reports below h.
    let i = c.self.inside in
    let t : SnapshotState = record { setup = i.setup; kept = i.kept.items; entries = i.entries } in
    let place : c.from-place.result ≡ c.args.process = c.from-place.ensures in
    let found : c.index_mut.result.now ≡ slice_index_or t.kept c.args.process c.index_mut.result.now = c.index_mut.ensures.value ∙ ap (λ k. slice_index_or t.kept k c.index_mut.result.now) place in
    subst (λ k. HasObserved (state_with t k c.step.new.self (t.entries + 1)) (e ∷ past)) (sym place)
    (step_observed t c.args.process c.args.access.now c.args.read c.index_mut.result.now c.step.new.self found c.step.ensures past e mine o m
    (subst (λ (x : SnapshotState). ReportsNumber x.setup past c.args.process c.args.access.now c.args.read) (sym c.self.view_is) reports)
    (subst (λ (x : SnapshotState). c.args.process < x.setup.processes) (sym c.self.view_is) below) (subst (λ (x : SnapshotState). HasObserved x past) (sym c.self.view_is) h))
