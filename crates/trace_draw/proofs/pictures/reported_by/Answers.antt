use Rattle.std.proofs.Common.{Bool, true, refl, subst, sym}
use Rattle.draw.proofs.Written.{if_ok_then}
use Rattle.trace_engine.specs.{HasReported}
use Rattle.trace_draw.specs.{ReportsIfJudged}
use Rattle.trace_draw.proofs.pictures.reported_by.Goals as goal

pub returns-then-judged : goal.returns-then-judged
returns-then-judged c =
    if_ok_then c.report.result
    (λ reported reports s entries numbers. subst (λ (j : Bool). HasReported j c.args.reporter.now s entries numbers → ReportsIfJudged j s entries numbers reported.text.items reported.status) (sym c.if-judged.true) (reports true s entries numbers))
    c.report.ensures

pub returns : goal.returns
returns c = λ s entries numbers.
    subst (λ (j : Bool). HasReported j c.args.reporter.now s entries numbers → ReportsIfJudged j s entries numbers c.new.result.items 0) (sym c.if-judged.false) (λ has. (c.new.ensures.items, refl))
