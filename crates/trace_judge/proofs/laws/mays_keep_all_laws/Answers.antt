use Rattle.trace_judge.proofs.Mays.{mays-keep}
use Rattle.trace_judge.proofs.laws.mays_keep_all_laws.Goals as goal

pub returns : goal.returns
returns c = mays-keep
