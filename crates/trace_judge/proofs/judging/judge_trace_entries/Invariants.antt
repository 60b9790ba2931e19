use Rattle.std.proofs.Common.{◌≡◌, take}
use Rattle.trace_judge.specs.{HasJudged}
use Rattle.trace_judge.proofs.judging.judge_trace_entries.Given as goal

-- the entries before the present one were judged
abbrev pub invariant-loop-entry : goal.invariant-loop-entry
invariant-loop-entry l = record {
  judged : HasJudged l.judge l.setup (take l.entry-index l.entries);
  count : l.judge.entries ≡ l.entry-index;
}
