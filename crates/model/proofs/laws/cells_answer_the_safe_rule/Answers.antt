-- The cells of a record give the values of the safe rule.
use Rattle.safe_bit.specs.{cell_of}
use Rattle.safe_bit.proofs.Showing.{shows_moves, answer-shows}
use Rattle.model.specs.{moves_of, opening_bit, past_of}
use Rattle.model.proofs.TurnRecords.{turns_all}
use Rattle.model.proofs.Width.{is_good}
use Rattle.model.proofs.laws.cells_answer_the_safe_rule.Goals as goal

pub returns : goal.returns
returns x = record {
  turns = λ s h events a. turns_all s (is_good s h) events a;
  cells = λ s h events a flick.
      answer-shows (opening_bit s a) (moves_of a (past_of s events)) (cell_of (opening_bit s a) (moves_of a (past_of s events))) flick
      (shows_moves (opening_bit s a) (moves_of a (past_of s events)) (turns_all s (is_good s h) events a));
}
