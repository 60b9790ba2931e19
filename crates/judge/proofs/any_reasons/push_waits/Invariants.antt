use Rattle.std.proofs.Common.{◌≡◌, ◌++◌, drop}
use Rattle.judge.specs.{waits_from}
use Rattle.judge.proofs.any_reasons.push_waits.Given as goal

-- the lines that are written, and the remaining ones
abbrev pub invariant-waits : goal.invariant-waits
invariant-waits l = record {
  text : l.text.items ++ waits_from l.process (drop l.wait-index l.waits) ≡ l.fn.text.items ++ waits_from 0 l.waits;
  at : l.process ≡ l.wait-index;
}
