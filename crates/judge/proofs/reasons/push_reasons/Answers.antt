use Rattle.std.proofs.Common.{ap}
use Rattle.model.specs.{Entry}
use Rattle.judge.proofs.LinesAt.{ok_then}
use Rattle.judge.proofs.Written.{writes_reasons}
use Rattle.judge.proofs.reasons.push_reasons.Goals as goal

pub returns : goal.returns
returns c =
    ok_then c.push_stage.result
    (writes_reasons c.args.auditor.now c.args.number c.args.entry.now c.entry.inside.process c.stage.result c.args.lines.now.items c.push_bad.new.text.items c.push_may.new.lines.items c.push_refused.new.lines.items c.push_stage.new.text.items
    (ap (λ (e : Entry). e.process) c.entry.view_is) c.in_ok-push_bad.ensures c.in_ok-push_may.ensures.lines c.in_ok-push_refused.ensures c.stage.ensures)
    c.push_stage.ensures
