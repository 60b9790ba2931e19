use Rattle.std.proofs.Common.{sym, ap, ◌∙◌}
use Rattle.any_lock.specs.{ProcessView, entry_of, part_of_view}
use Rattle.any_lock.proofs.lock_run.LockRun.opened.Goals as goal

pub returns-in-None : goal.returns-in-None
returns-in-None c = λ past knows. ap (part_of_view (λ (k : ProcessView). entry_of k.opened)) (sym c.in-None.is ∙ c.looked_up.ensures past knows)

pub returns-in-Some : goal.returns-in-Some
returns-in-Some c = λ past knows. c.entry_of.ensures ∙ ap (part_of_view (λ (k : ProcessView). entry_of k.opened)) (sym c.in-Some.is ∙ c.looked_up.ensures past knows)
