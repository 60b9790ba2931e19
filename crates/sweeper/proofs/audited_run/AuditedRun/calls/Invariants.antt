use Rattle.std.proofs.Common.{◌≡◌, ◌≤◌, ◌+◌, ◌*◌, take}
use Rattle.sweeper.specs.{IsRun, Run, due, with_calls}
use Rattle.sweeper.proofs.audited_run.AuditedRun.calls.Given as goal

-- the calls before the present one are made
abbrev pub invariant-loop-process : goal.invariant-loop-process
invariant-loop-process l = record {
  run : (run : Run) → IsRun l.fn.self l.fn.stuck run → IsRun l.self l.stuck (with_calls l.fn.self.core.setup (take l.process-index l.calls) l.value run);
  few : due l.self ≤ due l.fn.self + 16 * l.process-index;
  setup : l.self.core.setup ≡ l.fn.self.core.setup;
}
