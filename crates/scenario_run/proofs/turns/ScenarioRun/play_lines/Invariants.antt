use Rattle.std.proofs.Common.{◌≤◌, ◌-◌, ◌*◌, ◌^◌, length}
use Rattle.scenario_run.specs.{Follows, Run}
use Rattle.scenario_run.proofs.Fronts.{PlayedTo}
use Rattle.scenario_run.proofs.turns.ScenarioRun.play_lines.Given as goal

-- all that has happened in the lines so far was observed, and its events were counted
abbrev pub invariant-loop-index : goal.invariant-loop-index
invariant-loop-index g l = record {
  played : (run : Run) → Follows l.fn.self run → PlayedTo g.L.RunObserver.Observes l.fn.self.world.setup l.lines l.fn.until l.index run l.self l.fn.observer l.observer l.made l.newest;
  few : l.made ≤ l.index * (2 ^ 32 - 1);
  room : g.L.RunObserver.HasRoom l.observer ((length l.lines - l.index) * 2 ^ 32);
}
