use Rattle.std.proofs.Common.{◌≡◌}
use Rattle.model.proofs.reader_copies.Copying.{written_over}
use Rattle.world.proofs.cores.copies.copy_seats.Given as goal

abbrev pub invariant-loop-process : goal.invariant-loop-process
invariant-loop-process l = l.seats ≡ written_over l.fn.others l.fn.seats l.process
