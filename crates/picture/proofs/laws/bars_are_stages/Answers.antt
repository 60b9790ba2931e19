use Rattle.picture.proofs.BarsAndStages.{bars_are}
use Rattle.picture.proofs.laws.bars_are_stages.Goals as goal

pub returns : goal.returns
returns c = bars_are
