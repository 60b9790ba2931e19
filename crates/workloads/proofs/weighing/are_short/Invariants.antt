use Rattle.std.proofs.Common.{◌<◌, ◌≤◌, ℕ, length, slice_index_or}
use Rattle.std.specs.Global.{Vec}
use Rattle.model.specs.{Placed}
use Rattle.workloads.proofs.weighing.are_short.Given as goal

abbrev pub invariant-loop-list : goal.invariant-loop-list
invariant-loop-list l = (k : ℕ) (v : Vec Placed) → k < l.list-index → length (slice_index_or l.lists k v).items ≤ 65535
