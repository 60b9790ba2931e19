use Rattle.std.proofs.Common.{refl, sym, subst, ◌∙◌}
use Rattle.model.specs.{Entry}
use Rattle.scenario_run.specs.{TurnReport, entry_made}
use Rattle.scenario_run.proofs.Written.{appends_none, ok_then, on_err}
use Rattle.calls.specs.{CutsReported, Reports}
use Rattle.calls.proofs.observing.observe_reported.Goals as goal

pub returns-in-Accepted-clause-observed : goal.returns-in-Accepted-clause-observed
returns-in-Accepted-clause-observed g c =
    let e : Entry = entry_made c.in-Accepted.made in
    let marks = sym (c.as_slice.ensures ∙ c.marks-marks.ensures) in
    ok_then c.observe.result
    (λ wrote. subst (λ (t : TurnReport). Reports t c.args.table.now c.observe.new.table (g.W.Sink.taken c.args.output.now) (g.W.Sink.taken c.observe.new.output)) (sym c.in-Accepted.is)
    (λ past h turn. (c.observe.ensures.observed past e (sym c.process-process.ensures) refl marks h turn, wrote past e (sym c.process-process.ensures) refl marks h turn)))
    c.observe.ensures.written

pub returns-in-Accepted-clause-cut : goal.returns-in-Accepted-clause-cut
returns-in-Accepted-clause-cut g c =
    let e : Entry = entry_made c.in-Accepted.made in
    let marks = sym (c.as_slice.ensures ∙ c.marks-marks.ensures) in
    on_err c.observe.result (CutsReported c.args.reported.now c.args.table.now (g.W.Sink.taken c.args.output.now) (g.W.Sink.taken c.observe.new.output))
    (subst (λ (t : TurnReport). CutsReported t c.args.table.now (g.W.Sink.taken c.args.output.now) (g.W.Sink.taken c.observe.new.output)) (sym c.in-Accepted.is)
    (λ past h turn. c.observe.ensures.front past e (sym c.process-process.ensures) refl marks h turn))

pub returns-in-Refused-clause-observed : goal.returns-in-Refused-clause-observed
returns-in-Refused-clause-observed g c =
    subst (λ (t : TurnReport). Reports t c.args.table.now c.args.table.now (g.W.Sink.taken c.args.output.now) (g.W.Sink.taken c.args.output.now)) (sym c.in-Refused.is)
    (λ past h turn. (h, appends_none (g.W.Sink.taken c.args.output.now)))

pub returns-in-Tired-clause-observed : goal.returns-in-Tired-clause-observed
returns-in-Tired-clause-observed g c =
    subst (λ (t : TurnReport). Reports t c.args.table.now c.args.table.now (g.W.Sink.taken c.args.output.now) (g.W.Sink.taken c.args.output.now)) (sym c.in-Tired.is)
    (λ past h turn. (h, appends_none (g.W.Sink.taken c.args.output.now)))

pub returns-in-Shown-clause-observed : goal.returns-in-Shown-clause-observed
returns-in-Shown-clause-observed g c =
    subst (λ (t : TurnReport). Reports t c.args.table.now c.args.table.now (g.W.Sink.taken c.args.output.now) (g.W.Sink.taken c.args.output.now)) (sym c.in-Shown.is)
    (λ past h turn. (h, appends_none (g.W.Sink.taken c.args.output.now)))
