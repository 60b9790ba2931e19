-- One history.
use Rattle.history_laws.proofs.DataMainTheorem as main_theorem
use Rattle.history_laws.proofs.MainTheorems.{history_is_one}
use Rattle.history_laws.proofs.HistoryItems.{each_has_its_reply}
use Rattle.history_laws.proofs.data.one_history.Goals as goal

pub returns : goal.returns
returns x = record { history = history_is_one; replies = λ s h events given. each_has_its_reply main_theorem.taken s h events given }
