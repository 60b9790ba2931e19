use Rattle.std.proofs.Common.{arith, refl}
use Rattle.run_state.proofs.observer.StateObserver.new.Goals as goal

pub returns-clause-seen : goal.returns-clause-seen
returns-clause-seen c =
    let none = c.in_ok-observed_run.ensures.entries in
    record {
      setup = c.in_ok-observed_run.ensures.setup;
      observed = c.in_ok-observed_run.ensures.observed;
      reported = omega (arith);
      newest_is = λ same. refl;
      passed = λ some. absurd (omega (arith, none, some));
    }
