use Rattle.world.proofs.CoreNext.{entry-of-step, none-next}
use Rattle.world.proofs.cores.Core.next_entry.Goals as goal

pub returns-in_default : goal.returns-in_default
returns-in_default c = record { entry = none-next c.args.self.now c.args.process c.args.flick c.args.taken c.in_default.field-0 c.in_default.ensures.refused }

pub returns : goal.returns
returns c = record { entry = entry-of-step c.args.self.now c.args.process c.args.flick c.args.taken c.in-Ok.access c.in-Ok.reported c.step_marks.result.items c.in-Ok.ensures.accepted c.step_marks.ensures }
