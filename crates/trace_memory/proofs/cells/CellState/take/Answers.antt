use Rattle.std.proofs.Common.{sym, ap, ◌∙◌}
use Rattle.trace_memory.specs.{state_after}
use Rattle.trace_memory.proofs.cells.CellState.take.Goals as goal

pub returns-in-End : goal.returns-in-End
returns-in-End c = c.end.ensures c.args.width ∙ ap (state_after c.args.width c.args.self.now) (sym c.in-End.is)
