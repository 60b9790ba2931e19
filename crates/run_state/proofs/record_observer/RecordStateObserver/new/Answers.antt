use Rattle.std.proofs.Common.{[], arith, refl}
use Rattle.run_state.proofs.Observed.{core_setup, observes_none}
use Rattle.run_state.proofs.record_observer.RecordStateObserver.new.Goals as goal

pub invariant_of-result : goal.invariant_of-result
invariant_of-result c = record {
  core = core_setup c.in_ok-begin.field-0 c.args.setup.now [] c.in_ok-begin.ensures;
  observed_run = c.in_ok-new.ensures.setup;
  few = omega (arith, c.in_ok-new.ensures.entries);
}

pub returns : goal.returns
returns c = observes_none _ c.args.setup.now refl c.in_ok-begin.ensures c.in_ok-new.ensures.setup c.in_ok-new.ensures.observed refl c.new-2.ensures.items
