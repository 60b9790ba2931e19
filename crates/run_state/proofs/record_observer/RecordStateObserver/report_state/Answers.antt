use Rattle.std.proofs.Common.{List, ◌++◌, ap, subst, sym, ◌∙◌}
use Rattle.calls.specs.world.{CoreState}
use Rattle.judge.specs.Judgements.{status_of_verdict}
use Rattle.judge.specs.auditor.{Law, Verdict}
use Rattle.model.specs.{Taken}
use Rattle.run_state.specs.{HasObservedWorld, bad_line, count_line}
use Rattle.run_state.proofs.RecordTexts.{reported_is}
use Rattle.run_state.proofs.record_observer.RecordStateObserver.report_state.Goals as goal

pub print-requires : goal.print-requires
print-requires c = ap (λ (core : CoreState). core.setup) c.core.ensures ∙ c.args.self.now.core ∙ sym c.args.self.now.observed_run

pub returns : goal.returns
returns c = λ s noted numbers h.
    let o = c.args.self.now in
    let counted = c.in_ok-print_count.ensures ∙ ap (λ l. l ++ count_line o.good.observed_run.entries) c.new-text.ensures.items in
    reported_is o s noted numbers _ _ _ _ _ h counted c.in_ok-print_newest.ensures
    (λ past corresponds. c.in_ok-print.ensures.lines past (subst (λ (core : CoreState). HasObservedWorld o.good.observed_run core c.as_slice-history.result.now past) (sym c.core.ensures) (subst (λ (l : List Taken). HasObservedWorld o.good.observed_run o.judge.auditor.core l past) (sym c.as_slice-history.ensures.value) corresponds)))
    (c.in_ok-print_bad.ensures ∙ ap (λ (v : Verdict Law). c.print.new.text.items ++ bad_line v) c.judged-judged.ensures.now)
    (c.status_of.ensures ∙ ap status_of_verdict c.judged-judged.ensures.now)
