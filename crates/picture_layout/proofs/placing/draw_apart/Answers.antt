use Rattle.std.proofs.Common.{◌∙◌, arith, map, refl}
use Rattle.picture_layout.specs.{drawn_apart, seen}
use Rattle.picture_layout.proofs.Lists.{drawn_more, first_mapped_done, mapped_length, set_reported}
use Rattle.picture_layout.proofs.placing.draw_apart.Goals as goal

pub loop-column-preserved : goal.loop-column-preserved
loop-column-preserved c = (
  set_reported c.loop-column.columns c.loop-column.column-index _ c.column-item.result refl ∙ c.loop-column.invariant.0,
  drawn_more c.args.old c.args.new c.loop-column.columns (map seen c.args.columns.now) c.loop-column.column-index c.column-item.result c.stretched-column.result (omega arith) c.loop-column.invariant.1 c.stretched-column.ensures,
)

pub returns-clause-apart : goal.returns-clause-apart
returns-clause-apart c =
    first_mapped_done (drawn_apart c.args.old c.args.new) c.loop-column.column-index (map seen c.loop-column.columns) (map seen c.args.columns.now)
    (let same = mapped_length seen c.loop-column.columns in omega (arith, same)) c.loop-column.invariant.1
