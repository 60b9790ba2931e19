use Rattle.std.proofs.Common.{◌≡◌, ◌∷◌, refl, subst, sym, ◌∙◌}
use Rattle.model.specs.{Entry}
use Rattle.judge.specs.safe_monitor.{entry_by}
use Rattle.run_state.specs.{HasObserved, IsNext}
use Rattle.run_state.proofs.Observed.{empty_is, marked_if_still, some_is, reports_read}
use Rattle.run_state.proofs.record_observing.add_entry.Goals as goal
use Rattle.run_state.proofs.record_observing.add_entry.Goals.{in_default-via-in-Some+else-is_empty, in_default-via-in_default}

pub returns-in-Some-clause-observed : goal.returns-in-Some-clause-observed
returns-in-Some-clause-observed c = λ past next observed.
    let t = c.args.observed_run.now in
    let e : Entry = entry_by c.parts-process.result.0 c.parts-process.result.1.now c.parts-process.result.2.now in
    let same : e ≡ c.args.entry.now = c.parts-process.ensures in
    let next' : IsNext t.setup past e c.args.read = subst (λ (e : Entry). IsNext t.setup past e c.args.read) (sym same) next in
    let none = empty_is e.marks (sym c.is_empty.ensures ∙ c.if-is_empty.true) in
    subst (λ (e : Entry). HasObserved c.step.new.self (e ∷ past)) same (c.step.ensures.observed past e refl c.in-Some.is none (reports_read t.setup past e c.in-Some.access c.args.read next' none c.in-Some.is) next'.process observed)

pub returns-in_default-clause-observed : goal.returns-in_default-clause-observed
returns-in_default-clause-observed c = λ past next observed.
    let t = c.args.observed_run.now in
    let e : Entry = entry_by c.parts-process.result.0 c.parts-process.result.1.now c.parts-process.result.2.now in
    let same : e ≡ c.args.entry.now = c.parts-process.ensures in
    let next' : IsNext t.setup past e c.args.read = subst (λ (e : Entry). IsNext t.setup past e c.args.read) (sym same) next in
    subst (λ (e : Entry). HasObserved c.observe.new.self (e ∷ past)) same (c.observe.ensures.observed past e refl (sym c.is_some.ensures) refl (elim c.in_default.branch [
      | in_default-via-in-Some+else-is_empty w ↦ some_is e.marks (sym w.is_empty.ensures ∙ w.if-is_empty.false)
      | in_default-via-in_default w ↦ marked_if_still t.setup past e c.args.read next' w.in_default.is
    ]) next'.process observed)
