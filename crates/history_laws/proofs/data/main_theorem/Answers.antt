-- The main theorem.
use Rattle.history_laws.proofs.MainTheorems.{alone, history_is_one, in_turn, the_main_theorem, throughout}
use Rattle.history_laws.proofs.data.main_theorem.Goals as goal

pub returns : goal.returns
returns x = record { entries = the_main_theorem; pasts = throughout; mutual_exclusion = alone; no_overtaking = in_turn; one_history = history_is_one }
