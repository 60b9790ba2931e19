use Rattle.std.proofs.Common.{ap}
use Rattle.markup.specs.{with_lines}
use Rattle.picture_layout.specs.{reported_in}
use Rattle.picture.proofs.Reportings.{then_same}
use Rattle.picture.proofs.bands.Band.draw_column.Goals as goal

pub returns-clause-read : goal.returns-clause-read
returns-clause-read c = then_same c.draw_lines.result _ _ _ c.draw_lines.ensures.read (ap (with_lines (reported_in c.args.column.now)) c.in_ok-draw_head.ensures.read)
