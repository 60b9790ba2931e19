use Rattle.std.proofs.Common.{◌≡◌, None, Ok, ◌-◌, ◌+◌, ◌<◌, ◌≤◌, ℕ}
use Rattle.scenario.specs.{Line}
use Rattle.world.specs.{remaining_in}
use Rattle.scenario_run.specs.{ComesOn, Follows, IsAlone, KeepsScenarioRun, Run, scenario_run}
use Rattle.scenario_run.proofs.turns.ScenarioRun.run_alone.Given as goal

-- so far each Step was made without a mark, and was observed
abbrev pub invariant-steps : goal.invariant-steps
invariant-steps g l = record {
  on : (line : Line) (run : Run) → Follows l.fn.self run → IsAlone l.process l.floor l.fn.self.world.setup line run →
      ComesOn g.L.RunObserver.Observes l.fn.self.world.setup line l.fn.self.remaining run l.fn.observer l.observer (scenario_run l.self-inside.world l.self-inside.flicks l.self-inside.remaining) (IsAlone l.process l.floor);
  none : l.outcome ≡ Ok None;
  kept : KeepsScenarioRun l.self-inside.processes l.self-inside.world;
  remaining : l.self-inside.remaining ≤ l.fn.self.remaining;
  floor : l.floor ≤ l.self-inside.remaining;
  some : 0 < l.known;
  known : l.known ≤ remaining_in l.self-inside.world.seats l.process + 1;
  room : (more : ℕ) → g.L.RunObserver.HasRoom l.fn.observer (more + l.fn.self.remaining) → g.L.RunObserver.HasRoom l.observer (more + l.self-inside.remaining);
}

abbrev pub decreases-steps : goal.decreases-steps
decreases-steps g l = l.self-inside.remaining - l.floor
