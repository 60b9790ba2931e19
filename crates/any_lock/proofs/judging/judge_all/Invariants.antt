use Rattle.std.proofs.Common.{◌≡◌, take}
use Rattle.any_lock.specs.{HasJudged}
use Rattle.any_lock.proofs.judging.judge_all.Given as goal

-- the entries before the present one were judged
abbrev pub invariant-loop-entry : goal.invariant-loop-entry
invariant-loop-entry l = record {
  judged : HasJudged l.judge l.setup (take l.entry-index l.entries);
  count : l.judge.entries ≡ l.entry-index;
}
