use Rattle.std.proofs.Common.{◌∙◌, arith, sym, ap}
use Rattle.picture_layout.specs.{Column}
use Rattle.picture_layout.proofs.Lists.{last_more}
use Rattle.picture_layout.proofs.placing.last_place.Goals as goal

pub loop-column-preserved : goal.loop-column-preserved
loop-column-preserved c = ap (λ (column : Column). column.x) c.column-item.is ∙ sym (last_more c.args.columns.now c.loop-column.column-index c.column-item.result (omega arith))
