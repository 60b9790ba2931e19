-- The machines write in their turn.
use Rattle.model.specs.{Raises}
use Rattle.model.proofs.PlaceTurns.{enter-closed, followed-leads, withdrawal-leads, unit-leads}
use Rattle.model.proofs.Width.{is_good}
use Rattle.model.proofs.laws.machines_go_in_turn.Goals as goal

pub returns : goal.returns
returns x = record {
  start = λ c a. enter-closed c Raises a;
  place = λ c h accesses f v o. followed-leads c (is_good c.setup h) accesses f v o;
  withdrawal = λ c h flicks flick n e. withdrawal-leads c (is_good c.setup h) flicks flick n e;
  unit = λ c h past r flicks flick n e. unit-leads c (is_good c.setup h) past r flicks flick n e;
}
