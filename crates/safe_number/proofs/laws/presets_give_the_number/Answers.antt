use Rattle.safe_number.proofs.Presets.{preset-written}
use Rattle.safe_number.proofs.laws.presets_give_the_number.Goals as goal

pub returns : goal.returns
returns c = preset-written
