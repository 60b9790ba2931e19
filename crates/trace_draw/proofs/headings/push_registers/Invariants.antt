use Rattle.std.proofs.Common.{◌≡◌, ◌++◌, drop, flat_map}
use Rattle.trace_draw.specs.{register_line}
use Rattle.trace_draw.proofs.headings.push_registers.Given as goal

-- what is listed, and the lines of the registers that are left
abbrev pub invariant-loop-register : goal.invariant-loop-register
invariant-loop-register l = l.lines.items ++ flat_map register_line (drop l.register-index l.registers) ≡ l.fn.lines.items ++ flat_map register_line l.registers
