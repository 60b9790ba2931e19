use Rattle.std.proofs.Common.{ℕ, ◌+◌, List, ◌∙◌, arith, drop, map}
use Rattle.picture_layout.specs.{Column, Seen, seen}
use Rattle.picture.specs.{Subject, axis, axis_up_to}
use Rattle.picture.proofs.Drawn.{drawn_on}
use Rattle.picture.proofs.Steps.{axis_next}
use Rattle.picture.proofs.bands.Band.draw_axis.Goals as goal

pub loop-column-preserved : goal.loop-column-preserved
loop-column-preserved c =
    let columns : List Column = c.args.self.now.columns.items in
    let k : ℕ = c.loop-column.column-index in
    let rest : List Seen = map seen (drop (k + 1) columns) in
    let subject : Subject = c.args.self.now.subject in
    let end : ℕ = c.args.self.now.layout.end in
    record {
      read = c.in_ok-draw_stretch.ensures.read ∙ c.loop-column.invariant.read;
      draws = drawn_on c.loop-column.markup c.draw_stretch.new.markup _ (axis subject end c.loop-column.from (map seen (drop k columns))) (axis_up_to c.loop-column.from (seen c.column-item.result)) (axis subject end c.column-item.result.x rest)
          (axis_next columns k c.column-item.result (omega arith) (rw c.deref-column-items.ensures.value at c.column-item.is) subject end c.loop-column.from) c.loop-column.invariant.draws c.in_ok-draw_stretch.ensures.draws;
    }
