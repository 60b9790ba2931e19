use Rattle.std.proofs.Common.{sym, ap, ◌∙◌}
use Rattle.any_lock.specs.{doorway_with, part_of_view, view_of}
use Rattle.any_lock.proofs.lock_run.LockRun.doorway_with.Goals as goal

pub returns-in-None : goal.returns-in-None
returns-in-None c = λ past e p a knows. ap (part_of_view (doorway_with past e)) (sym c.in-None.is ∙ c.looked_up.ensures past knows ∙ ap (view_of c.args.self.now.setup past) (sym p))

pub returns-in-Some : goal.returns-in-Some
returns-in-Some c = λ past e p a knows. c.doorway_of.ensures past e a knows ∙ ap (part_of_view (doorway_with past e)) (sym c.in-Some.is ∙ c.looked_up.ensures past knows ∙ ap (view_of c.args.self.now.setup past) (sym p))
