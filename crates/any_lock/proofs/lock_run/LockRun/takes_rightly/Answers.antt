use Rattle.std.proofs.Common.{length, sym, ap, ◌∙◌}
use Rattle.std.specs.List.{list_all}
use Rattle.model.specs.{history, takings}
use Rattle.any_lock.specs.{is_that, right_reply}
use Rattle.any_lock.proofs.Going.{none_taken, taken_rightly}
use Rattle.any_lock.proofs.lock_run.LockRun.takes_rightly.Goals as goal

pub returns-then-not-takes : goal.returns-then-not-takes
returns-then-not-takes c = λ past knows.
    sym (none_taken (length (history c.args.self.now.setup past)) (right_reply c.args.self.now.setup past c.args.process) c.args.marks.now (sym c.takes.ensures ∙ c.if-not-takes.true))

pub returns : goal.returns
returns c = λ past knows.
    c.are_those.ensures ∙ taken_rightly c.right_taking-place.result.0 c.right_taking-place.result.1 c.args.marks.now
    ∙ ap (λ n. list_all (is_that n c.right_taking-place.result.1) (takings c.args.marks.now)) (c.right_taking-place.ensures.place ∙ knows.taken)
    ∙ ap (λ r. list_all (is_that (length (history c.args.self.now.setup past)) r) (takings c.args.marks.now)) (c.right_taking-place.ensures.reply past knows)
