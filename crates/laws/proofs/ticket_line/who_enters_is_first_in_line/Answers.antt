-- A process that enters is first in line.
use Rattle.model.proofs.Width.{is_good}
use Rattle.laws.proofs.FirstInLine.{first_inside, first_to_enter}
use Rattle.laws.proofs.ticket_line.who_enters_is_first_in_line.Goals as goal

pub returns : goal.returns
returns x = record {
  entering = λ s h events event e is enters q other waits. first_to_enter s (is_good s h) events event e is enters q other waits;
  inside = λ s h events p inside q waits. first_inside s (is_good s h) events p inside q waits;
}
