-- The registers serve every access.
use Rattle.model.proofs.Width.{is_good}
use Rattle.laws.proofs.Ends.{ends_what_began}
use Rattle.laws.proofs.HeldCells.{held_answers}
use Rattle.laws.proofs.HeldThere.{access_there}
use Rattle.laws.proofs.HeldTurns.{comes_in_turn, open_at_place}
use Rattle.laws.proofs.registers.registers_serve_every_access.Goals as goal

pub returns : goal.returns
returns x = record {
  in_range = λ s h events event e is a access. access_there s (is_good s h) events event e is a access;
  turn = λ s h events event e is a access. comes_in_turn s (is_good s h) events event e is a access;
  answer = λ s h events a flick. held_answers s (is_good s h) events a flick;
  open_reads = λ s h events a reading. open_at_place s (is_good s h) events a reading;
  ended = λ s h events p flick a next how. ends_what_began s (is_good s h) events p flick a next how;
}
