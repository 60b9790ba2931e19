use Rattle.std.proofs.Common.{◌≡◌, ◌∷◌, refl, sym, ap, subst, ◌∙◌, arith}
use Rattle.plain_store.specs.{Setup}
use Rattle.model.specs.{Event}
use Rattle.model.specs.declared.events.Event.TheVariants.{Step}
use Rattle.world.specs.choices.{flick_of}
use Rattle.sweeper.specs.{Follows, RunnerState, RunsBy, is_accepted, steps_of}
use Rattle.sweeper.proofs.Going.{going_by, going_ended, going_on, going_over}
use Rattle.sweeper.proofs.audited_run.AuditedRun.walk.Goals as goal

pub steps-init : goal.steps-init
steps-init c = record {
  going = λ events follows. record { now = events; follows = follows; whole = refl };
  few = omega arith;
  setup = refl;
}

pub returns-then-not-step-clause-follows : goal.returns-then-not-step-clause-follows
returns-then-not-step-clause-follows c = λ events follows.
    let s : Setup = c.args.self.now.core.setup in
    let step : Event = Step c.args.process c.args.value in
    subst (λ (r : RunnerState). Follows r (steps_of s c.args.process c.args.value c.args.most events)) (sym (c.step.ensures.unchanged c.if-not-step.true))
    (going_ended (λ s events. is_accepted s events step) (λ s events. step ∷ events) s c.args.most events c.steps.self c.steps.remaining c.steps.invariant.setup c.step.result c.step.ensures.accepted c.if-not-step.true (c.steps.invariant.going events follows))

pub steps-preserved-then-within-gt0 : goal.steps-preserved-then-within-gt0
steps-preserved-then-within-gt0 c =
    let s : Setup = c.args.self.now.core.setup in
    let step : Event = Step c.args.process c.args.value in
    let flick : flick_of c.constant-flicks.result ≡ c.args.value = ap flick_of c.constant-flicks.ensures in
    let makes : RunsBy c.steps.self c.run_on.new.self (λ s. steps_of s c.args.process c.args.value c.min-within.result) = subst (λ v. RunsBy c.steps.self c.run_on.new.self (λ s. steps_of s c.args.process v c.min-within.result)) flick c.run_on.ensures.follows in
    record {
      going = λ events follows. going_by (λ s events. is_accepted s events step) (λ s events. step ∷ events) s c.args.most events c.steps.self c.steps.remaining c.steps.invariant.setup c.run_on.new.self c.min-within.result
          (omega (arith, c.min-within.ensures)) makes (c.steps.invariant.going events follows);
      few = let a = c.run_on.ensures.bounded in let b = c.steps.invariant.few in omega (arith, a, b);
      setup = c.run_on.ensures.setup ∙ c.steps.invariant.setup;
    }

pub steps-preserved : goal.steps-preserved
steps-preserved c =
    let step : Event = Step c.args.process c.args.value in
    record {
      going = λ events follows. going_on (λ s events. is_accepted s events step) (λ s events. step ∷ events) c.args.self.now.core.setup c.args.most events c.steps.self c.steps.remaining c.steps.invariant.setup c.step.new.self c.step.result
          (omega (arith, c.steps-test.true)) c.step.ensures.accepted c.if-not-step.false c.step.ensures.follows (c.steps.invariant.going events follows);
      few = let a = c.step.ensures.bounded in let b = c.steps.invariant.few in omega (arith, a, b);
      setup = c.step.ensures.setup ∙ c.steps.invariant.setup;
    }

pub returns-clause-follows : goal.returns-clause-follows
returns-clause-follows c = λ events follows.
    let step : Event = Step c.args.process c.args.value in
    going_over (λ s events. is_accepted s events step) (λ s events. step ∷ events) c.args.self.now.core.setup c.args.most events c.steps.self c.steps.remaining c.steps.invariant.setup (omega (arith, c.steps-test.false)) (c.steps.invariant.going events follows)
