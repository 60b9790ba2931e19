use Rattle.std.proofs.Common.{slice_set, sym, ap, ◌∙◌, arith}
use Rattle.std.proofs.lemmas.List.Edits.{map_over_more}
use Rattle.world.specs.{reported}
use Rattle.world.proofs.WorldReporting.{reported-none, reported-seat}
use Rattle.world.proofs.seats.note_waiting.Goals as goal
use Rattle.world.proofs.seats.note_waiting.Goals.{then-waits, else-waits}

pub loop-seat-preserved : goal.loop-seat-preserved
loop-seat-preserved c =
    let one = reported c.args.process c.args.waited c.args.waits in
    let observes = reported-seat c.args.process c.from.result c.args.waited c.args.waits c.if-waits.seat _ c.if-waited-waits.true c.from.ensures (elim c.if-waits.branch [ then-waits w ↦ cc | else-waits w ↦ cc ]) in
    ap (slice_set c.loop-seat.seats c.loop-seat.seat-index) (observes ∙ ap one (sym c.seat-item.is))
    ∙ map_over_more one c.args.seats.now c.loop-seat.seats c.loop-seat.seat-index c.seat-item.result (omega (arith, c.loop-seat-test.true, c.loop-seat.auto.seat-index-end)) c.loop-seat.invariant c.seat-item.is

pub returns-else-waited-waits : goal.returns-else-waited-waits
returns-else-waited-waits c = reported-none c.args.process c.args.waited c.args.waits c.args.seats.now c.if-waited-waits.false
