use Rattle.std.proofs.Common.{◌≡◌, ◌++◌, drop}
use Rattle.trace_memory.specs.{opening_cells}
use Rattle.trace_memory.proofs.memory.opening_cells.Given as goal

-- the cells of the registers from the present one on are left
abbrev pub invariant-loop-register : goal.invariant-loop-register
invariant-loop-register l = l.cells.items ++ opening_cells (drop l.register-index l.registers) ≡ opening_cells l.registers
