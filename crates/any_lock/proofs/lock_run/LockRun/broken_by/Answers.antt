use Rattle.std.proofs.Common.{true, false, not, length, sym, ap, ◌∙◌}
use Rattle.std.specs.List.{list_all}
use Rattle.model.specs.{history, takings}
use Rattle.any_lock.specs.{is_that, right_reply}
use Rattle.any_lock.proofs.Breaks.{inside_is}
use Rattle.any_lock.proofs.lock_run.LockRun.broken_by.Goals as goal

pub returns-then-not-takes_rightly : goal.returns-then-not-takes_rightly
returns-then-not-takes_rightly c = λ past e p m knows. sym (inside_is c.args.self.now.setup past e false false true
    (sym (c.joins_another.ensures past e p m knows) ∙ c.if-joins_another.false)
    (sym (c.overtakes.ensures past e p m knows) ∙ c.if-overtakes.false)
    ((λ i. not (list_all (is_that (length (history c.args.self.now.setup past)) (right_reply c.args.self.now.setup past (p i))) (takings (m i)))) ∙ ap not (sym (c.takes_rightly.ensures past knows) ∙ c.if-not-takes_rightly.true)))

pub returns-else-not-takes_rightly : goal.returns-else-not-takes_rightly
returns-else-not-takes_rightly c = λ past e p m knows. sym (inside_is c.args.self.now.setup past e false false false
    (sym (c.joins_another.ensures past e p m knows) ∙ c.if-joins_another.false)
    (sym (c.overtakes.ensures past e p m knows) ∙ c.if-overtakes.false)
    ((λ i. not (list_all (is_that (length (history c.args.self.now.setup past)) (right_reply c.args.self.now.setup past (p i))) (takings (m i)))) ∙ ap not (sym (c.takes_rightly.ensures past knows) ∙ c.if-not-takes_rightly.false)))
