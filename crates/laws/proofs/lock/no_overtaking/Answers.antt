-- No process is overtaken.
use Rattle.model.proofs.Width.{is_good}
use Rattle.laws.proofs.Always.{inv_of}
use Rattle.laws.proofs.Theorems as theorem
use Rattle.laws.proofs.lock.no_overtaking.Goals as goal

pub returns : goal.returns
returns x s h events event e is enters j = theorem.no_overtaking s (is_good s h) (inv_of s (is_good s h)) events event e is enters j
