use Rattle.std.proofs.Common.{ℕ, List, [], ap, subst}
use Rattle.auditor.specs.{AuditorState}
use Rattle.judge.specs.{JudgeState, Writes, reason_lines}
use Rattle.judge.proofs.JudgedRecords.{gives_reasons}
use Rattle.judge.proofs.this_lock_judge.ThisLockJudgeRecordJudge.reasons.Goals as goal

pub returns : goal.returns
returns c =
    let n = c.args.number in
    let e = c.args.entry.now in
    let lines = c.push_reasons.new.lines.items in
    gives_reasons c.args.self.now n e lines
    (subst (λ (a : AuditorState). Writes a (λ s past. reason_lines s past n e) [] lines) (ap (λ (j : JudgeState). j.auditor) c.self.view_is)
    (subst (λ (t : List ℕ). Writes c.self.inside.auditor (λ s past. reason_lines s past n e) t lines) c.new-lines.ensures.items c.in_ok-push_reasons.ensures))
