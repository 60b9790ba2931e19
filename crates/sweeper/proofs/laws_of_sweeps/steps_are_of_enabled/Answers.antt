use Rattle.sweeper.proofs.Enabled.{steps_of_enabled}
use Rattle.sweeper.proofs.laws_of_sweeps.steps_are_of_enabled.Goals as goal

pub returns : goal.returns
returns x = steps_of_enabled
