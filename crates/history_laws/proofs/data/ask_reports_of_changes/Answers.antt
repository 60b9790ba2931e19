-- The answer to `Ask` shows changes.
use Rattle.model.proofs.Width.{is_good}
use Rattle.history_laws.proofs.DataMainTheorem as main_theorem
use Rattle.history_laws.proofs.Asked.{ask_answers, ask_reports}
use Rattle.history_laws.proofs.HistoryItems.{numbers_ascend}
use Rattle.history_laws.proofs.data.ask_reports_of_changes.Goals as goal

pub returns : goal.returns
returns x = record {
  latest = ask_answers main_theorem.taken;
  cut_calls = ask_reports main_theorem.taken;
  numbers = λ s h events given two j k t u less at_j at_k same. numbers_ascend s (is_good s h) two events given j k t u less at_j at_k same;
}
