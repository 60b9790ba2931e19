-- Each command that is taken has its place, and the history grows by it.
use Rattle.model.proofs.Width.{is_good}
use Rattle.history_laws.proofs.Places.{at_its_place, grows_by_the_taken}
use Rattle.history_laws.proofs.history.taken_at_its_place.Goals as goal

pub returns : goal.returns
returns x = record {
  place = λ s h events event e is k r taken. at_its_place s (is_good s h) events event e is k r taken;
  grows = λ s h events event e is. grows_by_the_taken s (is_good s h) events event e is;
}
