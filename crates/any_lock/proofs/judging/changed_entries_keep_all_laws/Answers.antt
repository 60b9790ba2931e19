use Rattle.any_lock.proofs.May.{mays_keep}
use Rattle.any_lock.proofs.judging.changed_entries_keep_all_laws.Goals as goal

pub returns : goal.returns
returns c = mays_keep
