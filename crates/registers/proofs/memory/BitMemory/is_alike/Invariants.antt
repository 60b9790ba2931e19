use Rattle.std.proofs.Common.{take}
use Rattle.registers.specs.{AreAlikeMemories}
use Rattle.registers.proofs.memory.BitMemory.is_alike.Given as goal

-- the lanes before the present one are alike
abbrev pub invariant-loop-at : goal.invariant-loop-at
invariant-loop-at l = AreAlikeMemories (take l.at l.fn.self) (take l.at l.fn.other)
