use Rattle.std.proofs.Common.{◌≡◌, ◌≤◌, List, ap, sym, subst, ◌∙◌}
use Rattle.plain_store.specs.{Setup}
use Rattle.model.specs.{Event}
use Rattle.world.specs.choices.{FlickState, flick_of}
use Rattle.world.specs.{CoreWalks, remaining_in}
use Rattle.sweeper.specs.{Follows, RunnerState, RunsBy, steps_of}
use Rattle.sweeper.proofs.Stretches.{HasRunOn, has-run-on}
use Rattle.sweeper.proofs.audited_run.AuditedRun.run_on.Goals as goal
use Rattle.sweeper.proofs.audited_run.AuditedRun.run_on.Goals.{After-observe_run-law}

abbrev before : After-observe_run-law → RunnerState
before c = let i = c.self.inside in record { core = i.core; auditor = i.auditor; taken = i.taken }

abbrev then : After-observe_run-law → RunnerState
then c = record { core = c.run-made.new.self; auditor = c.observe_run-law.new.self; taken = c.self.inside.taken }

-- the runner makes the steps
goes : (c : After-observe_run-law) (events : List Event) → Follows (before c) events → HasRunOn (before c) c.args.flicks.now c.args.process c.args.steps c.observe_run-law.result (then c) events
goes c events follows =
    let run = c.run-made in
    let within : c.args.steps ≤ remaining_in c.self.inside.core.seats c.args.process = subst (λ (r : RunnerState). c.args.steps ≤ remaining_in r.core.seats c.args.process) (sym c.self.view_is) c.requires.within in
    let runs = subst (λ (f : FlickState). CoreWalks c.self.inside.core f c.args.process c.args.steps run.result.newest run.result.overlapped run.new.self run.new.flicks) c.twin.ensures run.ensures.runs in
    has-run-on (before c) run.new.self c.args.flicks.now run.new.flicks c.args.process c.args.steps run.result.overlapped run.result.newest c.requires.nonzero within c.requires.constant runs c.observe_run-law.result c.observe_run-law.new.self
    (record { observed = c.observe_run-law.ensures.observed; setup = c.observe_run-law.ensures.setup }) events follows

pub invariant_of-self : goal.invariant_of-self
invariant_of-self c =
    let kept = c.self.invariant in
    let on = goes (goal.at.invariant_of-self c).After-observe_run-law kept.events kept.follows in
    record {
      events = steps_of c.self.inside.core.setup c.args.process (flick_of c.args.flicks.now) c.args.steps kept.events;
      follows = on.follows;
      processes = kept.processes ∙ ap (λ (s : Setup). s.processes) (sym on.setup);
      none_bad = c.first_bad-self-inside.ensures on.none ∙ kept.none_bad;
    }

pub returns-clause-follows : goal.returns-clause-follows
returns-clause-follows c =
    let b = (goal.at.returns-clause-follows c).After-observe_run-law in
    subst (λ (r : RunnerState). RunsBy r (then b) (λ s. steps_of s c.args.process (flick_of c.args.flicks.now) c.args.steps)) c.self.view_is (λ events follows. (goes b events follows).follows)

pub returns-clause-setup : goal.returns-clause-setup
returns-clause-setup c =
    let kept = c.self.invariant in
    let b = (goal.at.returns-clause-setup c).After-observe_run-law in
    subst (λ (r : RunnerState). c.run-made.new.self.setup ≡ r.core.setup) c.self.view_is (goes b kept.events kept.follows).setup
