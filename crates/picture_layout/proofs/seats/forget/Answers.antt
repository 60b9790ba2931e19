use Rattle.std.proofs.Common.{arith}
use Rattle.picture_layout.specs.{not_awaiting}
use Rattle.picture_layout.proofs.Lists.{first_mapped_done, first_mapped_put}
use Rattle.picture_layout.proofs.seats.forget.Goals as goal

pub loop-seat-preserved : goal.loop-seat-preserved
loop-seat-preserved c = first_mapped_put (not_awaiting c.args.process) c.loop-seat.seat-index c.loop-seat.seats c.args.seats.now _ _ (omega arith) c.loop-seat.invariant c.without.ensures

pub returns : goal.returns
returns c = first_mapped_done (not_awaiting c.args.process) c.loop-seat.seat-index c.loop-seat.seats c.args.seats.now (omega arith) c.loop-seat.invariant
