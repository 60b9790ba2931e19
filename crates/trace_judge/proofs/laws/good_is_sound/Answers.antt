use Rattle.std.proofs.Common.{reverse}
use Rattle.trace_judge.proofs.Sound.{sound-throughout}
use Rattle.trace_judge.proofs.laws.good_is_sound.Goals as goal

pub returns : goal.returns
returns c = λ s entries good. sound-throughout s (reverse entries) good
