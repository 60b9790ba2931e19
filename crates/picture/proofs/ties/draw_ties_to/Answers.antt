use Rattle.std.proofs.Common.{◌∙◌}
use Rattle.picture.proofs.Steps.{tie_next}
use Rattle.picture.proofs.ties.draw_ties_to.Goals as goal

pub loop-process-preserved : goal.loop-process-preserved
loop-process-preserved c = record {
  read = c.in_ok-draw_tie_to.ensures.read ∙ c.loop-process.invariant.read;
  draws = tie_next c.args.layout.now c.args.x c.args.access.now c.loop-process.process c.args.markup.now c.loop-process.markup c.draw_tie_to.new.markup c.loop-process.invariant.draws c.in_ok-draw_tie_to.ensures.draws;
}
