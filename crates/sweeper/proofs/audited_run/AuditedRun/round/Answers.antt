use Rattle.std.proofs.Common.{◌≡◌, ◌+◌, ◌∷◌, false, List, sym, refl, subst, ◌∙◌, arith}
use Rattle.plain_store.specs.{Setup}
use Rattle.model.specs.{Event}
use Rattle.model.specs.declared.events.Event.TheVariants.{Step}
use Rattle.sweeper.specs.{Follows, is_accepted}
use Rattle.sweeper.specs.declared.round_steps.RoundSteps.{RoundSteps}
use Rattle.sweeper.proofs.Alone.{RestBelow, rest_all, rest_refused, rest_stepped, steps_below}
use Rattle.sweeper.proofs.Going.{round_more}
use Rattle.sweeper.proofs.audited_run.AuditedRun.round.Goals.{then-step, else-step}
use Rattle.sweeper.proofs.audited_run.AuditedRun.round.Goals as goal

pub loop-process-init : goal.loop-process-init
loop-process-init c = record { follows = λ events follows. follows; rest = λ events follows q below. absurd (omega (arith, below)); few = omega arith; setup = refl }

pub loop-process-preserved : goal.loop-process-preserved
loop-process-preserved c =
    let s : Setup = c.args.self.now.core.setup in
    record {
      follows = λ events follows. subst (Follows c.step.new.self) (round_more c.args.value c.loop-process.process events)
          (c.step.ensures.follows (steps_below c.args.value events c.loop-process.process) (c.loop-process.invariant.follows events follows));
      rest = λ events follows.
          let now : List Event = steps_below c.args.value events c.loop-process.process in
          let rest : RestBelow s c.args.value c.loop-process.stepped c.loop-process.process now = c.loop-process.invariant.rest events follows in
          subst (RestBelow s c.args.value c.if-step.stepped (c.loop-process.process + 1)) (round_more c.args.value c.loop-process.process events)
          (elim c.if-step.branch [
            | then-step w ↦ subst (λ (x : RoundSteps). RestBelow s c.args.value x (c.loop-process.process + 1) (Step c.loop-process.process c.args.value ∷ now)) (sym (w.stepped-is ∙ w.with-stepped.ensures))
                (rest_stepped s follows.shows.good c.args.value now c.loop-process.process c.loop-process.stepped rest)
            | else-step w ↦ subst (λ (x : RoundSteps). RestBelow s c.args.value x (c.loop-process.process + 1) (Step c.loop-process.process c.args.value ∷ now)) (sym w.stepped-is)
                (rest_refused s follows.shows.good c.args.value now c.loop-process.process c.loop-process.stepped
                (subst (λ (s : Setup). is_accepted s now (Step c.loop-process.process c.args.value) ≡ false) c.loop-process.invariant.setup
                (sym (c.step.ensures.accepted now (c.loop-process.invariant.follows events follows)) ∙ w.if-step.false)) rest)
          ]);
      few = let a = c.step.ensures.bounded in let b = c.loop-process.invariant.few in omega (arith, a, b);
      setup = c.step.ensures.setup ∙ c.loop-process.invariant.setup;
    }

pub returns-clause-follows : goal.returns-clause-follows
returns-clause-follows c =
    let all : c.loop-process.process ≡ c.args.self.now.core.setup.processes = omega (arith, c.loop-process-test.false, c.loop-process.auto.process-end, c.processes-process-end.ensures) in
    λ events follows. subst (λ n. Follows c.loop-process.self (steps_below c.args.value events n)) all (c.loop-process.invariant.follows events follows)

pub returns-clause-others : goal.returns-clause-others
returns-clause-others c =
    let s : Setup = c.args.self.now.core.setup in
    let all : c.loop-process.process ≡ s.processes = omega (arith, c.loop-process-test.false, c.loop-process.auto.process-end, c.processes-process-end.ensures) in
    λ events follows. rest_all s follows.shows.good c.args.value (steps_below c.args.value events s.processes) c.loop-process.stepped
    (subst (λ n. RestBelow s c.args.value c.loop-process.stepped n (steps_below c.args.value events n)) all (c.loop-process.invariant.rest events follows))
