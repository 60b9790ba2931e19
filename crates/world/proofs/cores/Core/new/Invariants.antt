use Rattle.std.proofs.Common.{◌≡◌, [], map}
use Rattle.std.specs.List.{range_with_len}
use Rattle.world.specs.{seat_of}
use Rattle.world.proofs.cores.Core.new.Given as goal

abbrev pub invariant-loop-process : goal.invariant-loop-process
invariant-loop-process l = l.seats.items ≡ map (seat_of l.setup []) (range_with_len 0 l.process)
