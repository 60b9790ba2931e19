use Rattle.std.proofs.Common.{refl}
use Rattle.run_state.proofs.Observed.{stored}
use Rattle.run_state.proofs.record_observer.GoodEntries.store.Goals as goal

pub returns-clause-stores : goal.returns-clause-stores
returns-clause-stores c = stored _ _ c.args.line c.args.entry c.args.read c.args.taken.now c.add_entry.ensures.setup c.add_entry.ensures.observed c.in_ok-push_taken.ensures refl
