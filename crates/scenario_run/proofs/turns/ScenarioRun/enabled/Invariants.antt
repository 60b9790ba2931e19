use Rattle.std.proofs.Common.{◌≡◌, ◌≤◌, filter, length}
use Rattle.std.specs.List.{range_with_len}
use Rattle.model.specs.{is_at_work, stage}
use Rattle.scenario_run.specs.{Follows, Run, past_in}
use Rattle.scenario_run.proofs.turns.ScenarioRun.enabled.Given as goal

-- the processes below the present one that have a Step to make; there is room for all 16
abbrev pub invariant-loop-process : goal.invariant-loop-process
invariant-loop-process l = record {
  so_far : (run : Run) → Follows l.self run → l.enabled.items ≡ filter (λ p. is_at_work (stage p (past_in l.self.world.setup run))) (range_with_len 0 l.process);
  within : length l.enabled.items ≤ l.process;
  room : l.enabled.capacity ≡ 16;
}
