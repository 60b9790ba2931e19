use Rattle.std.proofs.Common.{◌∙◌, ap, arith, false, take}
use Rattle.picture_layout.specs.{group_of, places_from}
use Rattle.picture_layout.proofs.Lines.{said_more}
use Rattle.picture_layout.proofs.groups.places_said.Goals as goal

pub loop-place-preserved : goal.loop-place-preserved
loop-place-preserved c =
    c.with_if-group.ensures (places_from 0 (take c.loop-place.place c.args.said)) c.loop-place.invariant
    ∙ ap group_of (said_more c.loop-place.place c.from.result c.args.said false (omega arith) c.from.ensures)
