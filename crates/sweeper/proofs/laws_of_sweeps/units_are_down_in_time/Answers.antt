use Rattle.sweeper.proofs.Units.{down_in_time}
use Rattle.sweeper.proofs.laws_of_sweeps.units_are_down_in_time.Goals as goal

pub returns : goal.returns
returns x = down_in_time
