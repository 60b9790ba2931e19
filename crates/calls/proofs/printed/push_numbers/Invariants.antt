use Rattle.std.proofs.Common.{◌≡◌, ◌++◌, drop, flat_map}
use Rattle.calls.specs.{number_field}
use Rattle.calls.proofs.printed.push_numbers.Given as goal

-- the numbers so far and those to come are all
abbrev pub invariant-loop-number : goal.invariant-loop-number
invariant-loop-number l = l.line.items ++ flat_map number_field (drop l.number-index l.numbers) ≡ l.fn.line.items ++ flat_map number_field l.numbers
