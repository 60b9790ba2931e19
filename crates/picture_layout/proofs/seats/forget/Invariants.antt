use Rattle.std.proofs.Common.{◌≡◌}
use Rattle.picture_layout.specs.{not_awaiting}
use Rattle.picture_layout.proofs.Lists.{first_mapped}
use Rattle.picture_layout.proofs.seats.forget.Given as goal

-- no process before the present one awaits the process any more
abbrev pub invariant-loop-seat : goal.invariant-loop-seat
invariant-loop-seat l = l.seats ≡ first_mapped (not_awaiting l.process) l.seat-index l.fn.seats
