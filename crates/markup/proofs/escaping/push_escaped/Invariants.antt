use Rattle.std.proofs.Common.{◌≡◌, ◌++◌, drop}
use Rattle.markup.specs.{escaped}
use Rattle.markup.proofs.escaping.push_escaped.Given as goal

-- the bytes so far and those to come are the whole text
abbrev pub invariant-loop-byte : goal.invariant-loop-byte
invariant-loop-byte l = l.markup.items ++ escaped (drop l.byte-index l.text) ≡ l.fn.markup.items ++ escaped l.text
