use Rattle.std.proofs.Common.{None, Ok, ◌≡◌, ◌+◌, ◌<◌, ◌≤◌, ℕ, length, slice_index}
use Rattle.scenario.specs.declared.lines.Line.TheVariants.{Wander as WanderLine}
use Rattle.world.specs.choices.{after_pick, pick_of}
use Rattle.scenario_run.specs.{ComesOn, Follows, IsCounted, KeepsScenarioRun, Run, scenario_run}
use Rattle.scenario_run.proofs.Wanders.{ArePicked, drawn_to}
use Rattle.scenario_run.proofs.turns.ScenarioRun.run_random.Given as goal

-- so far each Step was made without a mark and was observed; the processes that may be picked are unchanged, and the next pick is already drawn.
-- The lower bounds on the Steps of each process within its register access hold
abbrev pub invariant-steps : goal.invariant-steps
invariant-steps g l = record {
  on : (steps : ℕ) (run : Run) → Follows l.fn.self run →
      ComesOn g.L.RunObserver.Observes l.fn.self.world.setup (WanderLine steps) l.fn.self.remaining run l.fn.observer l.observer (scenario_run l.self-inside.world (drawn_to l.fn.self (l.floor + l.remaining)) (l.floor + l.remaining)) (ArePicked l.among);
  same : l.self-inside.flicks ≡ l.fn.self.flicks;
  none : l.outcome ≡ Ok None;
  kept : KeepsScenarioRun l.self-inside.processes l.self-inside.world;
  more : 0 < l.remaining;
  remaining : l.floor + l.remaining ≤ l.fn.self.remaining;
  process : l.next ≡ slice_index l.among (pick_of (length l.among) (drawn_to l.fn.self (l.floor + l.remaining)));
  below : l.next < 256;
  ahead : l.ahead ≡ after_pick (drawn_to l.fn.self (l.floor + l.remaining));
  counted : IsCounted l.within l.self-inside.world.seats;
  room : (more : ℕ) → g.L.RunObserver.HasRoom l.fn.observer (more + l.fn.self.remaining) → g.L.RunObserver.HasRoom l.observer (more + (l.floor + l.remaining));
}

abbrev pub decreases-steps : goal.decreases-steps
decreases-steps g l = l.remaining
