use Rattle.std.proofs.Common.{◌≡◌, ◌+◌, ◌-◌, ◌++◌}
use Rattle.scenario.specs.{numbers_from}
use Rattle.scenario.proofs.making.count_from.Given as goal

-- the numbers so far, and the remaining numbers
abbrev pub invariant-loop-number : goal.invariant-loop-number
invariant-loop-number l = l.numbers.items ++ numbers_from l.number (l.first + l.count - l.number) ≡ numbers_from l.first l.count
