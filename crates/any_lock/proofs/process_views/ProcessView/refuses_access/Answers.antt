use Rattle.std.proofs.Common.{Option, None, Some, sym, ap, ◌∙◌}
use Rattle.any_lock.specs.{AccessRefusal, first_that, maker_refusals, move_refusals}
use Rattle.any_lock.proofs.Loops.{first_of_two}
use Rattle.any_lock.proofs.process_views.ProcessView.refuses_access.Goals as goal

pub returns-in-Some : goal.returns-in-Some
returns-in-Some c =
    sym (first_of_two (maker_refusals c.args.setup.now c.args.process c.args.access.now) (move_refusals c.args.self.now c.args.access.now)
    ∙ ap (λ o. elim o as (λ _. Option AccessRefusal) [ Some r ↦ Some r | None ↦ first_that (move_refusals c.args.self.now c.args.access.now) ]) (sym c.refuses_maker.ensures ∙ c.in-Some.is))

pub returns-in-None : goal.returns-in-None
returns-in-None c =
    c.refuses_move.ensures
    ∙ sym (first_of_two (maker_refusals c.args.setup.now c.args.process c.args.access.now) (move_refusals c.args.self.now c.args.access.now)
    ∙ ap (λ o. elim o as (λ _. Option AccessRefusal) [ Some r ↦ Some r | None ↦ first_that (move_refusals c.args.self.now c.args.access.now) ]) (sym c.refuses_maker.ensures ∙ c.in-None.is))
