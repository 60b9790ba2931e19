use Rattle.std.proofs.Common.{refl}
use Rattle.sweeper.specs.{most}
use Rattle.sweeper.proofs.runs.limit.Goals as goal

pub returns : goal.returns
unfolding most
returns c = refl
