use Rattle.std.proofs.Common.{◌≡◌, ◌++◌, drop, map, option_map, take}
use Rattle.trace_memory.specs.{seen}
use Rattle.trace_memory.proofs.taking.see_all.Given as goal

-- those before the present one are updated
abbrev pub invariant-loop-opened : goal.invariant-loop-opened
invariant-loop-opened l = l.opened ≡ map (option_map (seen l.memory l.access)) (take l.opened-index l.fn.opened) ++ drop l.opened-index l.fn.opened
