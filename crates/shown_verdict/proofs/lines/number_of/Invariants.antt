use Rattle.std.proofs.Common.{◌≡◌, drop}
use Rattle.shown_verdict.specs.{number_from}
use Rattle.shown_verdict.proofs.lines.number_of.Given as goal

-- the digits to come go on to the whole number
abbrev pub invariant-loop-byte : goal.invariant-loop-byte
invariant-loop-byte l = number_from l.number (drop l.byte-index l.text) ≡ number_from 0 l.text
