use Rattle.std.proofs.Common.{ap, arith, take, ◌∙◌}
use Rattle.std.proofs.lemmas.List.{take_all}
use Rattle.trace_judge.specs.{verdict_of}
use Rattle.trace_judge.proofs.Sound.{means-sound}
use Rattle.trace_judge.proofs.judging.judge_trace_entries.Goals as goal

pub returns-clause-sound : goal.returns-clause-sound
returns-clause-sound c =
    let i = c.loop-entry.entry-index in
    means-sound c.args.setup.now c.args.entries.now c.judged.result.verdict
    (c.judged.ensures.verdict c.args.setup.now (take i c.args.entries.now) c.loop-entry.invariant.judged
    ∙ ap (verdict_of c.args.setup.now) (take_all i c.args.entries.now (omega (arith, c.loop-entry-test.false))))
