use Rattle.std.proofs.Common.{◌≡◌, ◌≤◌, false}
use Rattle.trace.specs.{TracePast}
use Rattle.trace_calls.specs.{HasOpened, any_below, is_writing}
use Rattle.trace_calls.proofs.opened.OpenMoves.is_written.Given as goal

-- no process below the present one has a write open
abbrev pub invariant-loop-process : goal.invariant-loop-process
invariant-loop-process l = record {
  most : l.process-end ≤ 16;
  none : (past : TracePast) → HasOpened l.self past → any_below l.process (is_writing l.cell past) ≡ false;
}
