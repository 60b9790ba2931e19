use Rattle.std.proofs.Common.{◌≡◌, ◌-◌, ◌++◌, flat_map, length}
use Rattle.std.specs.List.{range_with_len}
use Rattle.trace.specs.{TracePast}
use Rattle.trace_calls.specs.{HasListed, line_of, open_call}
use Rattle.trace_calls.proofs.listing.TraceLister.print_open.Given as goal

-- the lines of the open calls of the processes so far are printed
abbrev pub invariant-loop-process : goal.invariant-loop-process
invariant-loop-process l = (past : TracePast) → HasListed l.fn.self.table past →
    l.text.items ≡ l.fn.text.items ++ flat_map (λ p. line_of (length past - 1) p (open_call l.fn.self.table.opened.processes p past)) (range_with_len 0 l.process)
