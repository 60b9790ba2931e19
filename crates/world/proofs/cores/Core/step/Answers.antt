use Rattle.std.proofs.Common.{◌≡◌, [], Some, None, refl, sym, subst, ◌∙◌, arith}
use Rattle.std.specs.Prelude.{List, nat_lt}
use Rattle.model.specs.{Taken}
use Rattle.world.specs.{MakesQuietly, with_history}
use Rattle.world.specs.Walks.{AddsQuietly}
use Rattle.world.proofs.WorldWithin.{walks-one}
use Rattle.world.proofs.cores.Core.step.Goals as goal
use Rattle.world.proofs.cores.Core.step.Goals.{After-run-made}

pub run-made-requires : goal.run-made-requires
run-made-requires c = record { nonzero = omega arith; within = omega (arith, c.if-remaining-gt0.true, c.remaining.ensures) }

-- with each history
one : (c : After-run-made) (taken : List Taken) → MakesQuietly (with_history c.args.self.now taken) c.args.process c.args.flick c.run-made.result.newest (nat_lt 0 c.run-made.result.overlapped) (with_history c.run-made.new.self taken)
one c taken = (walks-one (with_history c.args.self.now taken) (with_history c.run-made.new.self taken) c.only.result c.run-made.new.flicks c.args.process c.args.flick c.run-made.result.newest c.run-made.result.overlapped c.only.ensures (c.run-made.ensures.runs.walks taken)).0

pub returns-then-remaining-gt0-clause-accepted : goal.returns-then-remaining-gt0-clause-accepted
returns-then-remaining-gt0-clause-accepted c = λ taken.
    let m = one (goal.at.returns-then-remaining-gt0-clause-accepted c).After-run-made taken in
    subst (λ a. AddsQuietly (with_history c.args.self.now taken) c.args.process c.args.flick a) m.access_is m.steps.adds

pub returns-then-remaining-gt0-clause-overlapped : goal.returns-then-remaining-gt0-clause-overlapped
returns-then-remaining-gt0-clause-overlapped c = λ taken. (one (goal.at.returns-then-remaining-gt0-clause-overlapped c).After-run-made taken).reports

pub returns-then-remaining-gt0-clause-shows : goal.returns-then-remaining-gt0-clause-shows
returns-then-remaining-gt0-clause-shows c = record { there = c.run-made.ensures.runs.there; goes = λ taken. (one (goal.at.returns-then-remaining-gt0-clause-shows c).After-run-made taken).steps.shows }

pub returns-then-remaining-gt0-clause-pending : goal.returns-then-remaining-gt0-clause-pending
returns-then-remaining-gt0-clause-pending c = let fewer = c.run-made.ensures.runs.pending in omega (arith, fewer)

pub returns-then-remaining-gt0-clause-setup : goal.returns-then-remaining-gt0-clause-setup
returns-then-remaining-gt0-clause-setup c = (one (goal.at.returns-then-remaining-gt0-clause-setup c).After-run-made []).steps.setup

pub returns-in-Some-clause-through : goal.returns-in-Some-clause-through
returns-in-Some-clause-through c = λ taken events shows none. let both : Some c.in-Some.refusal ≡ None = sym (c.step_refusal.ensures.refused c.args.flick taken events shows ∙ c.in-Some.is) ∙ none in absurd (cc)

pub returns-in-Some-clause-refused : goal.returns-in-Some-clause-refused
returns-in-Some-clause-refused c = c.in-Some.ensures.refused c.args.flick

pub make_step-requires : goal.make_step-requires
make_step-requires c = c.in_default.ensures.refused c.args.flick

pub returns-in-Some-clause-others : goal.returns-in-Some-clause-others
returns-in-Some-clause-others c = λ q apart. refl

pub returns-then-remaining-gt0-clause-changes : goal.returns-then-remaining-gt0-clause-changes
returns-then-remaining-gt0-clause-changes c = λ taken events shows. tt
