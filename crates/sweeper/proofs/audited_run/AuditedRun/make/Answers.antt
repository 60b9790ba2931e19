use Rattle.std.proofs.Common.{◌≡◌, ◌+◌, ◌≤◌, List, ◌∷◌, true, cond, None, ap, sym, subst, ◌∙◌}
use Rattle.plain_store.specs.{Setup}
use Rattle.model.specs.{Event, is_call}
use Rattle.sweeper.specs.{Follows, RunnerState, RunsOn, due, is_accepted}
use Rattle.sweeper.proofs.Dues.{few_made, few_seats}
use Rattle.auditor.specs.safe_monitor.{entry_by}
use Rattle.sweeper.proofs.Making.{IsAnswered, IsMade, accepts_refused, follows_made, follows_refused, made_accepted, none_broken}
use Rattle.sweeper.proofs.audited_run.AuditedRun.make.Goals as goal
use Rattle.sweeper.proofs.audited_run.AuditedRun.make.Goals.{After-more-self-inside}

pub returns-in_default-clause-follows : goal.returns-in_default-clause-follows
returns-in_default-clause-follows c =
    let i = c.self.inside in
    follows_refused (record { core = i.core; auditor = i.auditor; taken = i.taken }) c.args.self.now c.self.view_is c.args.event.now c.in_default.field-0 c.in_default.ensures.refused c.event.new.self c.in_default.ensures.unchanged c.command_is_sound.ensures

pub returns-in_default-clause-accepted : goal.returns-in_default-clause-accepted
returns-in_default-clause-accepted c =
    let i = c.self.inside in accepts_refused (record { core = i.core; auditor = i.auditor; taken = i.taken }) c.args.self.now c.self.view_is c.args.event.now c.in_default.field-0 c.in_default.ensures.refused

abbrev before : After-more-self-inside → RunnerState
before c = let i = c.self.inside in record { core = i.core; auditor = i.auditor; taken = i.taken }

made : (c : After-more-self-inside) → IsMade (before c) c.args.event.now c.in-Ok.access c.event.new.effect c.event.new.self
made c = record { adds = c.in-Ok.ensures.accepted; makes = c.in-Ok.ensures.shows; setup = c.in-Ok.ensures.setup }

answered : (c : After-more-self-inside) → IsAnswered c.self.inside.auditor (entry_by c.process.result c.in-Ok.access c.deref.result.now) c.observe-law.result c.observe-law.new.self
answered c = record { observed = c.observe-law.ensures.observed; setup = c.observe-law.ensures.setup }

-- the runner makes the event
goes : (c : After-more-self-inside) (events : List Event) → Follows (before c) events →
    Follows (record { core = c.event.new.self; auditor = c.observe-law.new.self; taken = c.more-self-inside.result }) (c.args.event.now ∷ events)
goes c events follows =
    follows_made (before c) c.args.event.now c.in-Ok.access c.event.new.effect c.event.new.self (made c) events follows c.process.result c.deref.result.now c.observe-law.result c.observe-law.new.self c.more-self-inside.result
    c.process.ensures (c.deref.ensures ∙ c.event_marks-marks.ensures) c.more-self-inside.ensures (answered c)

pub invariant_of-self-2 : goal.invariant_of-self-2
invariant_of-self-2 c =
    let kept = c.self.invariant in
    let b = (goal.at.invariant_of-self-2 c).After-more-self-inside in
    let none : c.observe-law.result ≡ None = none_broken (before b) c.args.event.now c.in-Ok.access c.event.new.effect c.event.new.self (made b) kept.events kept.follows c.process.result c.deref.result.now c.observe-law.result c.observe-law.new.self
    c.process.ensures (c.deref.ensures ∙ c.event_marks-marks.ensures) (answered b) in
    record {
      events = c.args.event.now ∷ kept.events;
      follows = goes b kept.events kept.follows;
      processes = kept.processes ∙ ap (λ (s : Setup). s.processes) (sym c.in-Ok.ensures.setup);
      none_bad = c.first_bad-self-inside.ensures none ∙ kept.none_bad;
    }

pub returns-clause-follows : goal.returns-clause-follows
returns-clause-follows c =
    let then : RunnerState = record { core = c.event.new.self; auditor = c.observe-law.new.self; taken = c.more-self-inside.result } in
    subst (λ (r : RunnerState). RunsOn r then (λ events. c.args.event.now ∷ events)) c.self.view_is (goes (goal.at.returns-clause-follows c).After-more-self-inside)

pub returns-clause-accepted : goal.returns-clause-accepted
returns-clause-accepted c =
    let b = (goal.at.returns-clause-accepted c).After-more-self-inside in
    let family : RunnerState → Type 0 = λ r. (events : List Event) → Follows r events → true ≡ is_accepted r.core.setup events c.args.event.now in
    subst family c.self.view_is (λ events follows. sym (made_accepted (before b) c.args.event.now c.in-Ok.access c.event.new.effect c.event.new.self (made b) events follows))

pub returns-clause-bounded : goal.returns-clause-bounded
returns-clause-bounded c =
    let i = c.self.inside in
    let old : RunnerState = record { core = i.core; auditor = i.auditor; taken = i.taken } in
    let then : RunnerState = record { core = c.event.new.self; auditor = c.observe-law.new.self; taken = c.more-self-inside.result } in
    let few : due then ≤ due old + cond (is_call c.args.event.now) 16 0 =
    few_made c.args.event.now c.event.new.effect i.core.seats c.event.new.self.seats i.taken c.more-self-inside.result (few_seats i.core _ _ c.self.invariant.follows.shows) c.more-self-inside.ensures c.in-Ok.ensures.pending c.in-Ok.ensures.bounded in
    subst (λ (r : RunnerState). due then ≤ due r + cond (is_call c.args.event.now) 16 0) c.self.view_is few
