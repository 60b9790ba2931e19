use Rattle.std.proofs.Common.{◌≡◌, ◌+◌, drop}
use Rattle.model.specs.{index_of}
use Rattle.process.proofs.numbers.place_of.Given as goal

abbrev pub invariant-loop-place : goal.invariant-loop-place
invariant-loop-place l = index_of l.number l.numbers ≡ l.place + index_of l.number (drop l.place l.numbers)
