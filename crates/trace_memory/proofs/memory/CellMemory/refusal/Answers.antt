use Rattle.std.proofs.Common.{Option, None, Some, sym, ap, ◌∙◌, arith}
use Rattle.trace.proofs.Tables.{first_of_two}
use Rattle.trace.specs.{first_that}
use Rattle.trace_memory.specs.{CellRefusal, open_refusals, opened, setup_refusals}
use Rattle.trace_memory.proofs.memory.CellMemory.refusal.Goals as goal

pub refusal_now-requires : goal.refusal_now-requires
refusal_now-requires c = omega (arith, c.refusal_by_setup.ensures.process c.in_default.is, c.refusal_by_setup.ensures.most)

pub returns-in-Some-clause-refusal : goal.returns-in-Some-clause-refusal
returns-in-Some-clause-refusal c = λ past made.
    let now = open_refusals c.args.is_idle (opened c.args.process past) c.args.access.now in
    sym (first_of_two (setup_refusals c.args.self.now.setup c.args.process c.args.access.now) now
    ∙ ap (λ o. elim o as (λ _. Option CellRefusal) [ Some r ↦ Some r | None ↦ first_that now ]) (sym c.refusal_by_setup.ensures.refusal ∙ c.in-Some.is))

pub returns-clause-refusal : goal.returns-clause-refusal
returns-clause-refusal c = λ past made.
    let now = open_refusals c.args.is_idle (opened c.args.process past) c.args.access.now in
    c.refusal_now.ensures past made
    ∙ sym (first_of_two (setup_refusals c.args.self.now.setup c.args.process c.args.access.now) now
    ∙ ap (λ o. elim o as (λ _. Option CellRefusal) [ Some r ↦ Some r | None ↦ first_that now ]) (sym c.refusal_by_setup.ensures.refusal ∙ c.in_default.is))
