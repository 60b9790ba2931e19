use Rattle.std.proofs.Common.{Some, true≢false, ap, sym, subst, ◌∙◌}
use Rattle.model.specs.{Entry}
use Rattle.world.specs.process.{StepOutcome}
use Rattle.auditor.specs.safe_monitor.{entry_by}
use Rattle.auditor.specs.{Observes, step_reported}
use Rattle.sweeper.proofs.audited_run.observe_step.Goals as goal
use Rattle.sweeper.proofs.audited_run.observe_step.Goals.{in-Nothing, in_default}

pub returns-then-matches : goal.returns-then-matches
returns-then-matches c = record {
  setup = c.observe.ensures.setup;
  observed = elim c.match-matches.branch [
    | in-Nothing w ↦ subst (λ (reported : StepOutcome). Observes c.args.auditor.now (step_reported c.args.place c.args.process c.args.access reported) c.observe.new.self c.observe.result) (sym w.in-Nothing.is) c.observe.ensures.observed
    | in_default w ↦ absurd (true≢false (sym c.if-matches.true ∙ w.matches-is))
  ];
}

pub returns : goal.returns
returns c = record {
  setup = c.observe-2.ensures.setup;
  observed = subst (λ (e : Entry). Observes c.args.auditor.now e c.observe-2.new.self c.observe-2.result) (ap (entry_by c.args.process (Some c.args.access)) (c.deref-2.ensures ∙ c.step_marks.ensures)) c.observe-2.ensures.observed;
}
