use Rattle.std.proofs.Common.{ℕ, ◌+◌, List, arith, drop, refl}
use Rattle.markup.specs.{reading}
use Rattle.picture_layout.specs.{RunLine, seen}
use Rattle.picture.specs.{SeenBand, note_shapes, notes_shapes, seen_band}
use Rattle.picture.proofs.Drawn.{drawn_on}
use Rattle.picture.proofs.Steps.{notes_next}
use Rattle.picture.proofs.Reportings.{line_more, none_more}
use Rattle.picture.proofs.bands.Band.draw_notes.Goals as goal

pub loop-place-init : goal.loop-place-init
loop-place-init c = record { read = none_more (reading c.args.markup.now) c.args.markup.now refl; draws = refl }

pub loop-place-preserved : goal.loop-place-preserved
loop-place-preserved c =
    let lines : List RunLine = c.args.column.now.lines.items in
    let k : ℕ = c.loop-place.place in
    let band : SeenBand = seen_band c.args.self.now in
    record {
      read = line_more (reading c.args.markup.now) (reading c.loop-place.markup) (reading c.draw_note.new.markup) lines k c.line-item.result (omega arith) (rw c.deref-line-items.ensures.value at c.line-item.is) c.loop-place.invariant.read c.in_ok-draw_note.ensures.read;
      draws = drawn_on c.loop-place.markup c.draw_note.new.markup _ (notes_shapes band (seen c.args.column.now) k (drop k lines)) (note_shapes band (seen c.args.column.now) k c.line-item.result)
          (notes_shapes band (seen c.args.column.now) (k + 1) (drop (k + 1) lines)) (notes_next lines k c.line-item.result (omega arith) (rw c.deref-line-items.ensures.value at c.line-item.is) band (seen c.args.column.now)) c.loop-place.invariant.draws c.in_ok-draw_note.ensures.draws;
    }
