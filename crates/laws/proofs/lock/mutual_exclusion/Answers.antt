-- No two processes are inside.
use Rattle.model.proofs.Width.{is_good}
use Rattle.laws.proofs.Always.{inv_of}
use Rattle.laws.proofs.Theorems as theorem
use Rattle.laws.proofs.lock.mutual_exclusion.Goals as goal

pub returns : goal.returns
returns x s h events i j hi hj = theorem.mutual_exclusion s (is_good s h) (inv_of s (is_good s h)) events i j hi hj
