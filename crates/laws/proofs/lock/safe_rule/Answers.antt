-- The safe rule holds.
use Rattle.model.specs.{past_of}
use Rattle.laws.proofs.SafeRecords.{ends_as_it_may, ends_by_its_flick}
use Rattle.laws.proofs.lock.safe_rule.Goals as goal

pub returns : goal.returns
returns x = record {
  unoverlapped = λ s h events event e is a v access ends. ends_as_it_may s (past_of s events) event e is a v access ends;
  flick = λ s h events p flick e is a v access ends. ends_by_its_flick s (past_of s events) p flick e is a v access ends;
}
