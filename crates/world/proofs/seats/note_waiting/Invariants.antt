use Rattle.std.proofs.Common.{◌≡◌, ◌++◌, map, take, drop}
use Rattle.world.specs.{reported}
use Rattle.world.proofs.seats.note_waiting.Given as goal

abbrev pub invariant-loop-seat : goal.invariant-loop-seat
invariant-loop-seat l = l.seats ≡ map (reported l.process l.waited l.waits) (take l.seat-index l.initial.seats) ++ drop l.seat-index l.initial.seats
