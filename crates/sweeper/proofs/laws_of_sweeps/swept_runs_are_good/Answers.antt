use Rattle.sweeper.proofs.Goods.{swept_good}
use Rattle.sweeper.proofs.laws_of_sweeps.swept_runs_are_good.Goals as goal

pub returns : goal.returns
returns x = swept_good
