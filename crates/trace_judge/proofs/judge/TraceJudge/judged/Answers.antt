use Rattle.std.proofs.Common.{ap, ◌∙◌}
use Rattle.trace_judge.specs.{JudgeState}
use Rattle.trace_judge.proofs.Sound.{means-sound}
use Rattle.trace_judge.proofs.judge.TraceJudge.judged.Goals as goal

pub returns-clause-sound : goal.returns-clause-sound
returns-clause-sound c = λ s entries judged.
    means-sound s entries c.self.inside.verdict (ap (λ (j : JudgeState). j.verdict) c.self.view_is ∙ judged.verdict)
