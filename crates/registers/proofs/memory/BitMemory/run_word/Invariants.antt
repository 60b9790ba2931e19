use Rattle.std.proofs.Common.{◌≡◌, ◌%◌}
use Rattle.reader_copies.specs.{after_write, flag_in, over}
use Rattle.registers.proofs.Over.{over_lanes}
use Rattle.registers.proofs.memory.BitMemory.run_word.Given as goal

abbrev pub invariant-loop-copy : goal.invariant-loop-copy
invariant-loop-copy l = l.self-inside.lanes.items ≡ over_lanes l.copy (over l.n (λ i c. after_write (flag_in l.word (i % 64)) c) l.bit) l.lane l.initial.self-inside.lanes.items
