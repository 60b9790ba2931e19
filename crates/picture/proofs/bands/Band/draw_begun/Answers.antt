use Rattle.std.proofs.Common.{ℕ, ◌+◌, List, ◌∙◌, arith, drop, flat_map, map}
use Rattle.markup.specs.{Shape}
use Rattle.picture_layout.specs.{Column, Seen, seen}
use Rattle.picture.specs.{begun}
use Rattle.picture.proofs.Drawn.{drawn_on}
use Rattle.picture.proofs.Steps.{each_next}
use Rattle.picture.proofs.bands.Band.draw_begun.Goals as goal

pub loop-column-preserved : goal.loop-column-preserved
loop-column-preserved c =
    let columns : List Column = c.args.self.now.columns.items in
    let k : ℕ = c.loop-column.column-index in
    let rest : List Seen = map seen (drop (k + 1) columns) in
    let shapes : Seen → List Shape = begun c.args.self.now.layout in
    record {
      read = c.in_ok-draw_begun_by.ensures.read ∙ c.loop-column.invariant.read;
      draws = drawn_on c.loop-column.markup c.draw_begun_by.new.markup _ (flat_map shapes (map seen (drop k columns))) (shapes (seen c.column-item.result)) (flat_map shapes rest)
          (each_next columns k c.column-item.result (omega arith) (rw c.deref-column-items.ensures.value at c.column-item.is) shapes) c.loop-column.invariant.draws c.in_ok-draw_begun_by.ensures.draws;
    }
