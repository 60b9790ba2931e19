use Rattle.std.proofs.Common.{◌≡◌, ◌∷◌, ◌<◌, ◌+◌, ◌-◌, ◌^◌, sym, ap, subst, ◌∙◌}
use Rattle.std.specs.Prelude.{slice_index_or}
use Rattle.run_state.specs.{HasObserved, SnapshotState}
use Rattle.run_state.proofs.Keeps.{mark_observed, state_with}
use Rattle.run_state.proofs.observed_run.ObservedRun.observe.Goals as goal

pub returns-clause-observed : goal.returns-clause-observed
returns-clause-observed c = λ past e mine o m some below h.
    let i = c.self.inside in
    let t : SnapshotState = record { setup = i.setup; kept = i.kept.items; entries = i.entries } in
    let place : c.from-place.result ≡ c.args.process = c.from-place.ensures in
    let found : c.index_mut.result.now ≡ slice_index_or t.kept c.args.process c.index_mut.result.now = c.index_mut.ensures.value ∙ ap (λ k. slice_index_or t.kept k c.index_mut.result.now) place in
    let few : t.entries < 2 ^ 64 - 1 = subst (λ (x : SnapshotState). x.entries < 2 ^ 64 - 1) (sym c.self.view_is) c.requires in
    subst (λ k. HasObserved (state_with t k c.mark.new.self (t.entries + 1)) (e ∷ past)) (sym place)
    (mark_observed t c.args.process c.args.steps c.args.marks.now c.index_mut.result.now c.mark.new.self found few c.mark.ensures past e mine o m some
    (subst (λ (x : SnapshotState). c.args.process < x.setup.processes) (sym c.self.view_is) below) (subst (λ (x : SnapshotState). HasObserved x past) (sym c.self.view_is) h))
