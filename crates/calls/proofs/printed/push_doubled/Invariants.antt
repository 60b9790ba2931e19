use Rattle.std.proofs.Common.{◌≡◌, ◌++◌, drop, flat_map}
use Rattle.calls.specs.{doubled}
use Rattle.calls.proofs.printed.push_doubled.Given as goal

-- the bytes so far and those to come are the whole text
abbrev pub invariant-loop-byte : goal.invariant-loop-byte
invariant-loop-byte l = l.line.items ++ flat_map doubled (drop l.byte-index l.text) ≡ l.fn.line.items ++ flat_map doubled l.text
