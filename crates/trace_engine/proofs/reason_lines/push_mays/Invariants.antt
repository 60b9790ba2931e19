use Rattle.std.proofs.Common.{◌≡◌, ◌++◌, drop}
use Rattle.trace_engine.specs.{may_lines}
use Rattle.trace_engine.proofs.reason_lines.push_mays.Given as goal

-- the text so far, followed by the remaining lines, is the old text followed by all lines
abbrev pub invariant-mays : goal.invariant-mays
invariant-mays l = l.text.items ++ may_lines l.registers l.entry (drop l.may-index l.mays) ≡ l.fn.text.items ++ may_lines l.registers l.entry l.mays
