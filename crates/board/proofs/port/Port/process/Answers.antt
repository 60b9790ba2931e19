use Rattle.std.proofs.Common.{ap, ◌∙◌}
use Rattle.process.specs.{ProcessState}
use Rattle.board.specs.{PortState}
use Rattle.board.proofs.port.Port.process.Goals as goal

pub returns : goal.returns
returns c = c.process.ensures.process ∙ ap (λ (q : ProcessState). q.process) c.self.invariant.tied.same ∙ ap (λ (p : PortState). p.view.own.process) c.self.view_is
