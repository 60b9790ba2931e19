use Rattle.std.proofs.Common.{ℕ, ◌+◌, List, ◌∙◌, arith, drop, flat_map, map}
use Rattle.markup.specs.{Shape}
use Rattle.picture_layout.specs.{seen_accesses}
use Rattle.picture.specs.{SeenLine, VerdictLine, outline_of, seen_band, seen_line}
use Rattle.picture.proofs.Drawn.{drawn_on}
use Rattle.picture.proofs.VerdictLines.{each_line}
use Rattle.picture.proofs.bands.Band.draw_pointers.Goals as goal

pub loop-line-preserved : goal.loop-line-preserved
loop-line-preserved c =
    let lines : List VerdictLine = c.args.verdict.now.lines.items in
    let k : ℕ = c.loop-line.line-index in
    let shapes : SeenLine → List Shape = outline_of (seen_band c.args.self.now) (seen_accesses c.args.accesses.now) c.args.verdict.now.bad c.args.edge in
    record {
      read = c.in_ok-draw_pointer.ensures.read ∙ c.loop-line.invariant.read;
      draws = drawn_on c.loop-line.markup c.draw_pointer.new.markup _ (flat_map shapes (map seen_line (drop k lines))) (shapes (seen_line c.line-item.result)) (flat_map shapes (map seen_line (drop (k + 1) lines)))
          (each_line lines k c.line-item.result (omega arith) (rw c.deref-line-items.ensures.value at c.line-item.is) shapes) c.loop-line.invariant.draws c.in_ok-draw_pointer.ensures.draws;
    }
