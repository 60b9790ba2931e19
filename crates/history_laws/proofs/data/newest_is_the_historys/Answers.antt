-- The newest store is the history's.
use Rattle.history_laws.proofs.DataMainTheorem as main_theorem
use Rattle.history_laws.proofs.DataMore.{newest_counts}
use Rattle.history_laws.proofs.data.newest_is_the_historys.Goals as goal

pub returns : goal.returns
returns x = record { image = main_theorem.newest; stamp = newest_counts; whole = main_theorem.whole }
