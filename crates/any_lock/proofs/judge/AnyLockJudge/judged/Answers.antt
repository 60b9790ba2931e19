use Rattle.std.proofs.Common.{sym, ap, ◌∙◌}
use Rattle.any_lock.specs.{JudgeState}
use Rattle.any_lock.proofs.MainTheorems.{good_says}
use Rattle.any_lock.proofs.judge.AnyLockJudge.judged.Goals as goal

pub returns-clause-main_theorem : goal.returns-clause-main_theorem
returns-clause-main_theorem c = λ s entries judged good.
    good_says s entries (sym judged.verdict ∙ sym (ap (λ (j : JudgeState). j.verdict) c.self.view_is) ∙ good)
