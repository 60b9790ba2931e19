use Rattle.std.proofs.Common.{true, false, sym, ◌∙◌}
use Rattle.world.proofs.WorldAsks.{ahead-beyond, ahead-there}
use Rattle.world.proofs.cores.Core.ahead.Goals as goal
use Rattle.world.proofs.cores.Core.ahead.Goals.{in_default-via-in-Some+else-is_at_door, in_default-via-in_default}

pub returns-in-Some : goal.returns-in-Some
returns-in-Some c = λ taken events shows.
    c.listed.ensures
    ∙ ahead-there c.args.self.now c.args.process c.in-Some.seat.now true (sym c.in-Some.ensures) (sym c.is_at_door.ensures ∙ c.if-is_at_door.true) taken events shows

pub returns-in_default : goal.returns-in_default
returns-in_default c = λ taken events shows.
    c.new.ensures.items ∙ elim c.in_default.branch [
      | in_default-via-in-Some+else-is_at_door w ↦
          ahead-there c.args.self.now c.args.process w.in-Some.seat.now false (sym w.in-Some.ensures) (sym w.is_at_door.ensures ∙ w.if-is_at_door.false) taken events shows
      | in_default-via-in_default w ↦ ahead-beyond c.args.self.now c.args.process (sym w.in_default.ensures) taken events shows
    ]
