use Rattle.std.proofs.Common.{refl, ◌∙◌, arith}
use Rattle.sweeper.proofs.Rounding.{rounding_first, rounding_on, rounding_over, rounds_alone, rounds_ended}
use Rattle.sweeper.proofs.audited_run.AuditedRun.rounds.Goals as goal

pub rounds-init : goal.rounds-init
rounds-init c = record {
  going = λ events follows. rounding_first c.args.self.now.core.setup c.args.value c.args.most events c.args.self.now refl follows;
  few = omega arith;
  setup = refl;
}

pub returns-in-NoProcess-clause-follows : goal.returns-in-NoProcess-clause-follows
returns-in-NoProcess-clause-follows c = λ events follows.
    rounds_ended c.args.self.now.core.setup c.args.value c.args.most events c.rounds.self c.round.new.self c.rounds.invariant.setup (c.round.ensures.setup ∙ c.rounds.invariant.setup)
    c.rounds.remaining (omega (arith, c.rounds-test.true)) c.round.ensures.follows (c.rounds.invariant.going events follows) c.in-NoProcess.ensures.others

pub returns-in-One-clause-follows : goal.returns-in-One-clause-follows
returns-in-One-clause-follows c = λ events follows.
    rounds_alone c.args.self.now.core.setup c.args.value c.args.most events c.rounds.self c.round.new.self c.rounds.invariant.setup (c.round.ensures.setup ∙ c.rounds.invariant.setup)
    c.rounds.remaining (omega (arith, c.rounds-test.true)) c.round.ensures.follows (c.rounds.invariant.going events follows)
    c.in-One.process c.walk.new.self (c.walk.ensures.setup ∙ c.round.ensures.setup ∙ c.rounds.invariant.setup) c.in-One.ensures.others c.walk.ensures.follows

pub rounds-preserved : goal.rounds-preserved
rounds-preserved c = record {
  going = λ events follows. rounding_on c.args.self.now.core.setup c.args.value c.args.most events c.rounds.self c.round.new.self c.rounds.invariant.setup (c.round.ensures.setup ∙ c.rounds.invariant.setup)
      c.rounds.remaining (omega (arith, c.rounds-test.true)) c.round.ensures.follows (c.rounds.invariant.going events follows);
  few = let a = c.round.ensures.bounded in let b = c.rounds.invariant.few in omega (arith, a, b);
  setup = c.round.ensures.setup ∙ c.rounds.invariant.setup;
}

pub returns-clause-follows : goal.returns-clause-follows
returns-clause-follows c = λ events follows.
    rounding_over c.args.self.now.core.setup c.args.value c.args.most events c.rounds.self c.rounds.invariant.setup c.rounds.remaining (omega (arith, c.rounds-test.false)) (c.rounds.invariant.going events follows)
