use Rattle.std.proofs.Common.{◌++◌, ℕ, List, Option, sym, ap, ◌∙◌}
use Rattle.std.specs.Prelude.{unwrap_or}
use Rattle.any_lock.specs.declared.reasons.Reasons.{Reasons}
use Rattle.judge.specs.{any_reason_lines}
use Rattle.judge.proofs.AnyLockReasons.{gives_written}
use Rattle.judge.proofs.any_lock_judging.AnyLockJudgeRecordJudge.reasons.Goals as goal

pub returns : goal.returns
returns c =
    let n = c.args.number in
    let e = c.args.entry.now in
    let reported = c.in-Some.reasons in
    gives_written c.args.self.now n e c.push_reasons.new.text.items c.reasons.result c.reasons.ensures
    (λ r is.
    c.in_ok-push_reasons.ensures ∙ ap (λ (t : List ℕ). t ++ any_reason_lines n e reported) c.new-lines.ensures.items
    ∙ ap (any_reason_lines n e) (ap (λ (o : Option Reasons). unwrap_or o reported) (sym c.in-Some.is ∙ is)))
