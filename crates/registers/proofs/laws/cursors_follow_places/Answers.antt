use Rattle.model.proofs.Width.{is_good}
use Rattle.registers.proofs.CursorRuns.{moves}
use Rattle.registers.proofs.LastAccess.{last-made}
use Rattle.registers.proofs.PlaceMoves.{entered-at, entered-place, marks-move, place-moves}
use Rattle.std.specs.Prelude.{false}
use Rattle.registers.proofs.laws.cursors_follow_places.Goals as goal

pub returns : goal.returns
returns x = record {
  next = λ c part cur at. (moves c part cur false at).access;
  advance = λ c part cur v at. place-moves c part cur v at;
  marks = λ c part cur v at. marks-move c part cur v at;
  stays = λ c part cur v at more. (moves c part cur v at).stays more;
  ends = λ c part cur v at over. (moves c part cur v at).done over;
  last = λ c part cur v at. last-made c part cur v at;
  begins = λ c part good inside. (entered-at c part (is_good c.setup good) inside, entered-place c part);
}
