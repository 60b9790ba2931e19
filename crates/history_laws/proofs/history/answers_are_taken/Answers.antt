-- Answers state what was taken.
use Rattle.history_laws.proofs.MainTheorems.{answered_take_no_more, answers_are_taken, in_history}
use Rattle.history_laws.proofs.history.answers_are_taken.Goals as goal

pub returns : goal.returns
returns x = record { answers = answers_are_taken; whole_calls = answered_take_no_more; history = in_history }
