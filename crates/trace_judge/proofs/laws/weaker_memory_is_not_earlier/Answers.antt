use Rattle.std.proofs.Common.{reverse}
use Rattle.trace_judge.proofs.Weaker.{not_earlier}
use Rattle.trace_judge.proofs.laws.weaker_memory_is_not_earlier.Goals as goal

pub returns : goal.returns
returns c = λ s entries weak strong is. not_earlier weak strong s (reverse entries) is
