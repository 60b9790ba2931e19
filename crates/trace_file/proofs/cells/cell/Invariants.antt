use Rattle.std.proofs.Common.{◌≡◌, drop}
use Rattle.trace_file.specs.{cell_from}
use Rattle.trace_file.proofs.cells.cell.Given as goal

-- searching the registers that remain has the outcome of searching all
abbrev pub invariant-loop-register : goal.invariant-loop-register
invariant-loop-register l = record {
  number : l.number ≡ l.register-index;
  found : cell_from l.register-index (drop l.register-index l.registers) l.word ≡ cell_from 0 l.registers l.word;
}
