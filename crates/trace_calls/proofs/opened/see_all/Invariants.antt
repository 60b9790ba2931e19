use Rattle.std.proofs.Common.{◌≡◌, ◌++◌, drop, map, option_map, take}
use Rattle.trace_calls.specs.Keeping.{seen}
use Rattle.trace_calls.proofs.opened.see_all.Given as goal

-- those before the present one are updated
abbrev pub invariant-loop-opened : goal.invariant-loop-opened
invariant-loop-opened l = l.opened ≡ map (option_map (seen l.access)) (take l.opened-index l.fn.opened) ++ drop l.opened-index l.fn.opened
