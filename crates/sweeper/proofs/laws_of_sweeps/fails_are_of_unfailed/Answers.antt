use Rattle.sweeper.proofs.Enabled.{fails_of_unfailed}
use Rattle.sweeper.proofs.laws_of_sweeps.fails_are_of_unfailed.Goals as goal

pub returns : goal.returns
returns x = fails_of_unfailed
