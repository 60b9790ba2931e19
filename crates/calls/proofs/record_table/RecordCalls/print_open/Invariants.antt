use Rattle.std.proofs.Common.{◌≡◌, ◌-◌, ◌++◌, flat_map, length}
use Rattle.std.specs.List.{range_with_len}
use Rattle.model.specs.{Past}
use Rattle.calls.specs.{HasListed, line_of, open_recorded}
use Rattle.calls.proofs.record_table.RecordCalls.print_open.Given as goal

-- the lines of the open calls of the processes so far are printed
abbrev pub invariant-loop-process : goal.invariant-loop-process
invariant-loop-process l = (past : Past) → HasListed l.fn.self.table past →
    l.text.items ≡ l.fn.text.items ++ flat_map (λ p. line_of (length past - 1) (open_recorded l.fn.self.table.setup p past)) (range_with_len 0 l.process)
