use Rattle.std.proofs.Common.{◌≡◌, length, map, take}
use Rattle.std.specs.List.{range_with_len}
use Rattle.world.specs.{waits_in}
use Rattle.world.proofs.seats.waiting.Given as goal

abbrev pub invariant-loop-process : goal.invariant-loop-process
invariant-loop-process l = (length l.waiting ≡ 16) × (take l.process l.waiting ≡ map (waits_in l.seats) (range_with_len 0 l.process))
