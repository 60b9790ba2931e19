use Rattle.std.proofs.Common.{ap, sym, ◌∙◌}
use Rattle.process.specs.{ProcessState, number_read}
use Rattle.world.proofs.CoreLooks.{none-shown, process-shown}
use Rattle.world.proofs.cores.Core.number_read.Goals as goal

pub returns-in-Some : goal.returns-in-Some
returns-in-Some c = λ taken events shows.
    c.number_read.ensures ∙ ap (λ (now : ProcessState). number_read now.doing) (process-shown c.args.self.now c.args.process c.in-Some.seat.now (sym c.in-Some.ensures) taken events shows)

pub returns-in-None : goal.returns-in-None
returns-in-None c = λ taken events shows. sym (ap number_read (none-shown c.args.self.now c.args.process (sym c.in-None.ensures) taken events shows))
