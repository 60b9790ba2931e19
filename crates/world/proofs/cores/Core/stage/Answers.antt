use Rattle.std.proofs.Common.{Some, sym, ap, ◌∙◌}
use Rattle.world.proofs.WorldAsks.{stage-beyond, stage-there}
use Rattle.world.proofs.cores.Core.stage.Goals as goal

pub returns : goal.returns
returns c = λ taken events shows. ap Some c.stage.ensures ∙ stage-there c.args.self.now c.args.process c.in_ok-seat.field-0.now (sym c.in_ok-seat.ensures) taken events shows

pub returns-in_err-seat : goal.returns-in_err-seat
returns-in_err-seat c = λ taken events shows. c.from_residual.ensures ∙ stage-beyond c.args.self.now c.args.process (sym c.in_err-seat.ensures) taken events shows
