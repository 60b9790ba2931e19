use Rattle.std.proofs.Common.{◌≡◌, ◌≤◌, ◌++◌, length, drop}
use Rattle.world.specs.{listed_from, listed}
use Rattle.world.proofs.queue.listed.Given as goal

abbrev pub invariant-loop-process : goal.invariant-loop-process
invariant-loop-process l = (l.all.items ++ listed_from l.process (drop l.process l.before) ≡ listed l.before) × (l.all.capacity ≡ 16) × (length l.all.items ≤ l.process)
