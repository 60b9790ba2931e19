use Rattle.std.proofs.Common.{◌≡◌, ◌<◌, [], Bool, Some, None, sym, subst, ◌∙◌, true≢false, arith}
use Rattle.std.specs.Prelude.{nat_lt}
use Rattle.world.specs.{CoreAddsQuietly, remaining_in, with_history}
use Rattle.world.proofs.WorldWithin.{walks-one}
use Rattle.safe_monitor.specs.declared.verdicts.Law.TheVariants as law
use Rattle.auditor.specs.{AuditorState, BreaksNext, HasObserved, IsObserved, flick_in}
use Rattle.auditor.proofs.Within.{IsNextWithin, MadeWithin, access_entry, observed_within, other_observed}
use Rattle.auditor.proofs.auditor.Auditor.observe_within.Goals as goal
use Rattle.auditor.proofs.auditor.Auditor.observe_within.Goals.{After-is_that, After-run-made}

abbrev before : After-is_that → AuditorState
before c = record { core = c.self.inside.core; taken = c.self.inside.taken }

-- the next access of the process
next : (c : After-is_that) → IsNextWithin c.self.inside.core c.args.process (flick_in (Some c.args.reported)) c.next_access.result
next c = record {
  within = subst (λ (a : AuditorState). 0 < remaining_in a.core.seats c.args.process) (sym c.self.view_is) c.requires;
  adds = subst (λ (f : Bool). CoreAddsQuietly c.self.inside.core c.args.process f c.next_access.result) c.flick_of-flick.ensures c.next_access.ensures;
}

-- the step of the process
made : (c : After-run-made) → MadeWithin c.self.inside.core c.args.process (flick_in (Some c.args.reported)) c.run-made.result.newest (nat_lt 0 c.run-made.result.overlapped) c.run-made.new.self
made c = λ taken.
    let step = c.run-made in
    (walks-one (with_history c.self.inside.core taken) (with_history step.new.self taken) c.only.result step.new.flicks c.args.process (flick_in (Some c.args.reported)) step.result.newest step.result.overlapped (c.only.ensures ∙ c.flick_of-flick.ensures) (step.ensures.runs.walks taken)).0

pub next_access-requires : goal.next_access-requires
next_access-requires c = subst (λ (a : AuditorState). 0 < remaining_in a.core.seats c.args.process) (sym c.self.view_is) c.requires

pub returns-then-not-is_that-clause-observed : goal.returns-then-not-is_that-clause-observed
returns-then-not-is_that-clause-observed c = λ past h.
    let b = (goal.at.returns-then-not-is_that-clause-observed c).After-is_that in
    subst (λ (x : AuditorState). BreaksNext law.Program x.core.setup past (access_entry c.args.process c.args.reported)) c.self.view_is
    (other_observed (before b) past c.args.process c.args.reported c.next_access.result (next b) (subst (λ (x : AuditorState). HasObserved x past) (sym c.self.view_is) h)
    (λ same. true≢false (sym (c.is_that.ensures.1 same) ∙ c.if-not-is_that.true)))

pub run-made-requires : goal.run-made-requires
run-made-requires c =
    let some = (next (goal.at.run-made-requires c).After-is_that).within in
    record { nonzero = omega arith; within = omega (arith, some) }

pub returns-clause-setup : goal.returns-clause-setup
returns-clause-setup c = λ none. subst (λ (x : AuditorState). c.run-made.new.self.setup ≡ x.core.setup) c.self.view_is (made (goal.at.returns-clause-setup c).After-run-made []).steps.setup

pub returns-clause-observed : goal.returns-clause-observed
returns-clause-observed c = λ past h.
    let a = goal.at.returns-clause-observed c in
    let b = a.After-is_that in
    let step = c.run-made in
    subst (λ (x : AuditorState). IsObserved x.core.setup past (access_entry c.args.process c.args.reported) (record { core = step.new.self; taken = c.self.inside.taken }) None) c.self.view_is
    (observed_within (before b) past c.args.process (nat_lt 0 step.result.overlapped) c.args.reported c.next_access.result step.result.newest step.new.self (next b) (c.is_that.ensures.0 c.if-not-is_that.false) (made a.After-run-made)
    (subst (λ (x : AuditorState). HasObserved x past) (sym c.self.view_is) h))
