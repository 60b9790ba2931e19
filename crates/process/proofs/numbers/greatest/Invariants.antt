use Rattle.std.proofs.Common.{◌≡◌, fold, max, take}
use Rattle.process.proofs.numbers.greatest.Given as goal

abbrev pub invariant-loop-number : goal.invariant-loop-number
invariant-loop-number l = l.most ≡ fold max 0 (take l.number-index l.numbers)
