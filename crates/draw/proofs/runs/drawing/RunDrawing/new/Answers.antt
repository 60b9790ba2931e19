use Rattle.std.proofs.Common.{[], subst}
use Rattle.draw.specs.{AccessView, Recalls}
use Rattle.draw.proofs.runs.drawing.RunDrawing.new.Goals as goal

pub returns-clause-recalls : goal.returns-clause-recalls
returns-clause-recalls c =
    subst (λ (v : AccessView). Recalls v c.args.setup.now [] c.in_ok-drawing.drawing) c.full-view.ensures c.in_ok-drawing.ensures.recalls
