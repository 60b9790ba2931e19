use Rattle.std.proofs.Common.{◌+◌, ◌^◌, ◌≤◌, ℕ}
use Rattle.scenario_run.specs.{Follows, Run, turns_in}
use Rattle.scenario_run.proofs.Played.{Played}
use Rattle.scenario_run.proofs.turns.ScenarioRun.play_part.Given as goal

-- all that has happened in the line was observed, its events were counted, and the rest of the line follows
abbrev pub invariant-turns : goal.invariant-turns
invariant-turns g l = record {
  played : (run : Run) → Follows l.fn.self run → Played g.L.RunObserver.Observes l.fn.self.world.setup l.line l.floor run l.fn.observer l.self l.made l.observer;
  remaining : l.self.remaining ≤ turns_in l.line;
  count : l.made + l.self.remaining ≤ turns_in l.line;
  room : (more : ℕ) → g.L.RunObserver.HasRoom l.fn.observer (more + 2 ^ 32) → g.L.RunObserver.HasRoom l.observer (more + l.self.remaining);
}

abbrev pub decreases-turns : goal.decreases-turns
decreases-turns g l = l.self.remaining
