use Rattle.std.proofs.Common.{◌≡◌, ◌++◌, drop}
use Rattle.std.specs.String.{string_bytes}
use Rattle.engines.specs.{cell_text_from}
use Rattle.engines.specs.Bits.{bits_printed}
use Rattle.engines.proofs.bits.text_of.Given as goal

-- the text so far and that of the remaining lines are the whole text
abbrev pub invariant-loop-line : goal.invariant-loop-line
invariant-loop-line l = string_bytes l.text ++ cell_text_from l.bit (drop l.line-index l.lines) ≡ bits_printed l.lines
