use Rattle.std.proofs.Common.{◌≡◌}
use Rattle.reader_copies.proofs.Copying.{written_over}
use Rattle.registers.proofs.memory.BitMemory.copy_from.Given as goal

abbrev pub invariant-loop-at : goal.invariant-loop-at
invariant-loop-at l = l.self-inside.lanes.items ≡ written_over l.fn.other l.fn.self l.at
