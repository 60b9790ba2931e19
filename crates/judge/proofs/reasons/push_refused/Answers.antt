use Rattle.std.proofs.Common.{ap}
use Rattle.model.specs.{Entry}
use Rattle.judge.proofs.LinesAt.{ok_then}
use Rattle.judge.proofs.Written.{writes_crowded, writes_refusal}
use Rattle.judge.proofs.reasons.push_refused.Goals as goal

pub returns-then-is_crowded : goal.returns-then-is_crowded
returns-then-is_crowded c =
    ok_then c.push_word.result
    (writes_crowded c.args.auditor.now c.args.entry.now c.entry.inside.process c.stage.result c.args.lines.now.items c.push_word.new.text.items (ap (λ (e : Entry). e.process) c.entry.view_is) c.stage.ensures c.if-is_crowded.ensures)
    c.push_word.ensures

pub returns : goal.returns
returns c =
    ok_then c.push_refusal.result
    (writes_refusal c.args.auditor.now c.args.entry.now c.entry.inside.process c.stage.result c.event_or_step.result c.refusal.result c.args.lines.now.items c.push_refusal.new.lines.items (ap (λ (e : Entry). e.process) c.entry.view_is) c.stage.ensures c.if-is_crowded.ensures c.event_or_step.ensures c.refusal.ensures)
    c.push_refusal.ensures
