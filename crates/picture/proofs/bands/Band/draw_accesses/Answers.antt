use Rattle.std.proofs.Common.{ℕ, ◌+◌, List, ◌++◌, arith, drop, map, ap, ◌∙◌}
use Rattle.markup.specs.{drawings}
use Rattle.picture_layout.specs.{Column, Lane, Seen, lane_in, seen}
use Rattle.picture.specs.{accesses_from, made_by, shapes_if}
use Rattle.picture.proofs.Drawn.{drawn_on}
use Rattle.picture.proofs.Steps.{accesses_next}
use Rattle.picture.proofs.bands.Band.draw_accesses.Goals as goal

pub loop-column-preserved : goal.loop-column-preserved
loop-column-preserved c =
    let columns : List Column = c.args.self.now.columns.items in
    let k : ℕ = c.loop-column.column-index in
    let p : ℕ = c.args.process in
    let end : ℕ = c.args.self.now.layout.end in
    let column : Column = c.column-item.result in
    let lane : Lane = lane_in c.args.self.now.layout p in
    let rest : List Seen = map seen (drop (k + 1) columns) in
    record {
      read = c.in_ok-draw_column_access.ensures.read ∙ c.loop-column.invariant.read;
      draws = drawn_on c.loop-column.markup c.draw_column_access.new.markup _ (accesses_from lane p end c.loop-column.before c.loop-column.from (map seen (drop k columns)))
          (shapes_if lane c.loop-column.before c.loop-column.from column.x (made_by p column.access)) (accesses_from lane p end c.open_next-before.result c.next_from-from.result rest)
          (accesses_next columns k column (omega arith) (rw c.deref-column-items.ensures.value at c.column-item.is) lane p end c.loop-column.before c.open_next-before.result c.loop-column.from c.next_from-from.result c.open_next-before.ensures c.next_from-from.ensures)
          c.loop-column.invariant.draws
          (c.in_ok-draw_column_access.ensures.draws ∙ ap (λ (l : Lane). c.loop-column.markup ++ drawings (shapes_if l c.loop-column.before c.loop-column.from column.x (made_by p column.access))) c.lane-lane.ensures);
    }
