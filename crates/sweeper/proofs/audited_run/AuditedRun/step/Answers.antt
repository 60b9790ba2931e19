use Rattle.std.proofs.Common.{◌≡◌, List, ◌∷◌, true, map, None, Some, ap, refl, sym, subst, ◌∙◌}
use Rattle.plain_store.specs.{Setup}
use Rattle.model.specs.{Event, Mark, placed}
use Rattle.model.specs.declared.events.Event.TheVariants.{Step}
use Rattle.world.specs.process.declared.outcomes.EventOutcome.TheVariants.{Steps}
use Rattle.world.specs.process.{marks_reported}
use Rattle.sweeper.specs.{Follows, RunnerState, RunsOn, is_accepted}
use Rattle.auditor.specs.safe_monitor.{entry_by}
use Rattle.sweeper.proofs.Making.{IsAnswered, IsMade, accepts_refused, follows_made, follows_refused, made_accepted, none_broken}
use Rattle.sweeper.proofs.audited_run.AuditedRun.step.Goals as goal
use Rattle.sweeper.proofs.audited_run.AuditedRun.step.Goals.{After-more-self-inside}

pub returns-in_default-clause-follows : goal.returns-in_default-clause-follows
returns-in_default-clause-follows c =
    let i = c.self.inside in
    follows_refused (record { core = i.core; auditor = i.auditor; taken = i.taken }) c.args.self.now c.self.view_is (Step c.args.process c.args.value) c.in_default.field-0 c.in_default.ensures.refused c.step.new.self c.in_default.ensures.unchanged refl

pub returns-in_default-clause-accepted : goal.returns-in_default-clause-accepted
returns-in_default-clause-accepted c =
    let i = c.self.inside in accepts_refused (record { core = i.core; auditor = i.auditor; taken = i.taken }) c.args.self.now c.self.view_is (Step c.args.process c.args.value) c.in_default.field-0 c.in_default.ensures.refused

abbrev before : After-more-self-inside → RunnerState
before c = let i = c.self.inside in record { core = i.core; auditor = i.auditor; taken = i.taken }

abbrev marks : After-more-self-inside → List Mark
marks c = map (placed c.self.inside.taken) (marks_reported c.step.new.reported)

made : (c : After-more-self-inside) → IsMade (before c) (Step c.args.process c.args.value) (Some c.in-Ok.made.access) (Steps c.step.new.reported) c.step.new.self
made c = record { adds = c.in-Ok.ensures.accepted; makes = c.in-Ok.ensures.shows; setup = c.in-Ok.ensures.setup }

answered : (c : After-more-self-inside) → IsAnswered c.self.inside.auditor (entry_by c.args.process (Some c.in-Ok.made.access) (marks c)) c.observe_step-law.result c.observe_step-law.new.auditor
answered c = record { observed = c.observe_step-law.ensures.observed; setup = c.observe_step-law.ensures.setup }

-- the runner makes the step
goes : (c : After-more-self-inside) (events : List Event) → Follows (before c) events →
    Follows (record { core = c.step.new.self; auditor = c.observe_step-law.new.auditor; taken = c.more-self-inside.result }) (Step c.args.process c.args.value ∷ events)
goes c events follows =
    follows_made (before c) (Step c.args.process c.args.value) (Some c.in-Ok.made.access) (Steps c.step.new.reported) c.step.new.self (made c) events follows c.args.process (marks c) c.observe_step-law.result c.observe_step-law.new.auditor c.more-self-inside.result
    refl refl c.more-self-inside.ensures (answered c)

pub invariant_of-self-2 : goal.invariant_of-self-2
invariant_of-self-2 c =
    let kept = c.self.invariant in
    let b = (goal.at.invariant_of-self-2 c).After-more-self-inside in
    let none : c.observe_step-law.result ≡ None = none_broken (before b) (Step c.args.process c.args.value) (Some c.in-Ok.made.access) (Steps c.step.new.reported) c.step.new.self (made b) kept.events kept.follows c.args.process (marks b) c.observe_step-law.result c.observe_step-law.new.auditor refl refl (answered b) in
    record {
      events = Step c.args.process c.args.value ∷ kept.events;
      follows = goes b kept.events kept.follows;
      processes = kept.processes ∙ ap (λ (s : Setup). s.processes) (sym c.in-Ok.ensures.setup);
      none_bad = c.first_bad-self-inside.ensures none ∙ kept.none_bad;
    }

pub returns-clause-follows : goal.returns-clause-follows
returns-clause-follows c =
    let then : RunnerState = record { core = c.step.new.self; auditor = c.observe_step-law.new.auditor; taken = c.more-self-inside.result } in
    subst (λ (r : RunnerState). RunsOn r then (λ events. Step c.args.process c.args.value ∷ events)) c.self.view_is (goes (goal.at.returns-clause-follows c).After-more-self-inside)

pub returns-clause-accepted : goal.returns-clause-accepted
returns-clause-accepted c =
    let step : Event = Step c.args.process c.args.value in
    let b = (goal.at.returns-clause-accepted c).After-more-self-inside in
    let family : RunnerState → Type 0 = λ r. (events : List Event) → Follows r events → true ≡ is_accepted r.core.setup events step in
    subst family c.self.view_is (λ events follows. sym (made_accepted (before b) step (Some c.in-Ok.made.access) (Steps c.step.new.reported) c.step.new.self (made b) events follows))
