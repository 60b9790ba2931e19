-- The closing machine follows the scripts.
use Rattle.model.proofs.ClosingScripts.{withdrawal-reports, unit-reports, closing-stages}
use Rattle.model.proofs.ClosingAccesses.{withdrawn_corresponds, unit_corresponds}
use Rattle.model.proofs.Width.{is_good}
use Rattle.model.proofs.laws.closings_follow_scripts.Goals as goal

pub returns : goal.returns
returns x = record {
  withdrawal = λ c h flicks flick. withdrawal-reports c (is_good c.setup h) flicks flick;
  unit = λ c h past flicks flick. unit-reports c (is_good c.setup h) past flicks flick;
  stage = λ c at flick n e. closing-stages c at flick n e;
  withdrawn_in_record = λ s h events p b st. withdrawn_corresponds s (is_good s h) events p b st;
  unit_in_record = λ s h events p b st. unit_corresponds s (is_good s h) events p b st;
}
