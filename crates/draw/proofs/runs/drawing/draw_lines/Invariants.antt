use Rattle.std.proofs.Common.{◌≡◌, [], ◌+◌, ◌-◌, ◌*◌, ◌^◌, drop, length}
use Rattle.picture.specs.{WindowPlan}
use Rattle.draw.specs.{Recalls, AccessView, kept, kept_at_first, tally}
use Rattle.scenario_run.specs.{CanCount}
use Rattle.draw.proofs.LinesDrawn.{Drawn}
use Rattle.draw.proofs.runs.drawing.draw_lines.Given as goal

-- what has happened is drawn but for what is held back, and the lines to come follow
abbrev pub invariant-loop-line : goal.invariant-loop-line
invariant-loop-line g l = record {
  drawn : (plan : WindowPlan) (view : AccessView) → kept l.fn.run.drawing.canvas ≡ kept_at_first plan → Recalls view l.scenario.setup [] l.fn.run.drawing →
      Drawn plan view l.scenario.setup l.scenario.lines.items (drop l.line-index l.scenario.lines.items) l.scenario_run l.run (g.W.Sink.taken l.fn.output) (g.W.Sink.taken l.output);
  source : l.run.drawing.source ≡ length l.scenario.setup.opening + 5 + l.line-index;
  whole : g.W.Sink.failures l.output ≡ g.W.Sink.failures l.fn.output;
  room : CanCount (tally l.run) ((4000 - l.line-index) * 2 ^ 32);
}
