use Rattle.std.proofs.Common.{ℕ, ◌+◌, List, arith, drop, flat_map, map, refl}
use Rattle.markup.specs.{Shape, reading}
use Rattle.picture_layout.specs.{Column, Seen, seen}
use Rattle.picture.specs.{column_shapes, seen_band}
use Rattle.picture.proofs.Drawn.{drawn_on}
use Rattle.picture.proofs.Steps.{each_next}
use Rattle.picture.proofs.Reportings.{column_more, none_more}
use Rattle.picture.proofs.bands.Band.draw_columns.Goals as goal

pub loop-column-init : goal.loop-column-init
loop-column-init c = record { read = none_more (reading c.args.markup.now) c.args.markup.now refl; draws = refl }

pub loop-column-preserved : goal.loop-column-preserved
loop-column-preserved c =
    let columns : List Column = c.args.self.now.columns.items in
    let k : ℕ = c.loop-column.column-index in
    let rest : List Seen = map seen (drop (k + 1) columns) in
    let shapes : Seen → List Shape = column_shapes (seen_band c.args.self.now) in
    record {
      read = column_more (reading c.args.markup.now) (reading c.loop-column.markup) (reading c.draw_column.new.markup) columns k c.column-item.result (omega arith) (rw c.deref-column-items.ensures.value at c.column-item.is) c.loop-column.invariant.read c.in_ok-draw_column.ensures.read;
      draws = drawn_on c.loop-column.markup c.draw_column.new.markup _ (flat_map shapes (map seen (drop k columns))) (shapes (seen c.column-item.result)) (flat_map shapes rest)
          (each_next columns k c.column-item.result (omega arith) (rw c.deref-column-items.ensures.value at c.column-item.is) shapes) c.loop-column.invariant.draws c.in_ok-draw_column.ensures.draws;
    }
