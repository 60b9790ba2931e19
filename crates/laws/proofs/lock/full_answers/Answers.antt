-- The end of a doorway.
use Rattle.model.proofs.Width.{is_good}
use Rattle.laws.proofs.DoorwayEnds.{all_read, waiters_read_none, full_names_the_lowest, full_exactly}
use Rattle.laws.proofs.lock.full_answers.Goals as goal

pub returns : goal.returns
returns x = record {
  all_read = λ s h events event e is ends. all_read s (is_good s h) events event e is ends;
  ticket = λ s h events event e is waits. waiters_read_none s (is_good s h) events event e is waits;
  full = λ s h events event e is j reported. full_names_the_lowest s (is_good s h) events event e is j reported;
  exactly = λ s h events event e is ends j. full_exactly s (is_good s h) events event e is ends j;
}
