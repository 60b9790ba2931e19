use Rattle.std.proofs.Common.{IfOk, subst}
use Rattle.model.specs.{Entry}
use Rattle.auditor.specs.safe_monitor.{entry_by}
use Rattle.judge.specs.{GivesReasons}
use Rattle.judge.proofs.explaining.reasons_of.Goals as goal

pub returns : goal.returns
returns g c =
    let J = g.J.RecordJudge in
    subst (λ (e : Entry). IfOk c.reasons.result (λ lines. GivesReasons J.HasJudged J.verdict J.AreReasons c.args.judge.now c.args.number e lines.items))
    {y = entry_by c.args.process c.args.access.now c.args.marks.now} c.in_ok-entry.ensures c.reasons.ensures
