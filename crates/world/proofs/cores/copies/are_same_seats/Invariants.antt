use Rattle.std.proofs.Common.{◌≡◌, take}
use Rattle.world.proofs.cores.copies.are_same_seats.Given as goal

-- the seats before the present one are equal
abbrev pub invariant-loop-process : goal.invariant-loop-process
invariant-loop-process l = take l.process l.seats ≡ take l.process l.others
