use Rattle.std.proofs.Common.{ℕ, ◌+◌, List, ◌++◌, ◌∙◌, ap, arith, drop, map, refl}
use Rattle.markup.specs.{drawings, reading}
use Rattle.picture.specs.{VerdictLine, lines_from, lines_height, seen_line, verdict_line}
use Rattle.picture.proofs.Drawn.{drawn_on}
use Rattle.picture.proofs.VerdictLines.{box_next, title_more}
use Rattle.picture.proofs.Reportings.{none_more}
use Rattle.picture.proofs.verdict_box.draw_lines.Goals as goal

pub loop-place-init : goal.loop-place-init
loop-place-init c = record { read = none_more (reading c.args.markup.now) c.args.markup.now refl; draws = refl }

pub loop-place-preserved : goal.loop-place-preserved
loop-place-preserved c =
    let lines : List VerdictLine = c.args.verdict.now.lines.items in
    let k : ℕ = c.loop-place.place in
    let edge : ℕ = c.args.edge in
    let source : ℕ = c.args.verdict.now.source in
    let top : ℕ = c.args.top in
    record {
      read = title_more lines k c.line-item.result (omega arith) (rw c.deref-line-items.ensures.value at c.line-item.is) (reading c.args.markup.now) (reading c.loop-place.markup) (reading c.draw_line.new.markup) c.loop-place.invariant.read c.in_ok-draw_line.ensures.read;
      draws = drawn_on c.loop-place.markup c.draw_line.new.markup _ (lines_from edge source top k (map seen_line (drop k lines))) (verdict_line edge source (top + 36 + lines_height k) (seen_line c.line-item.result))
          (lines_from edge source top (k + 1) (map seen_line (drop (k + 1) lines))) (box_next lines k c.line-item.result (omega arith) (rw c.deref-line-items.ensures.value at c.line-item.is) edge source top) c.loop-place.invariant.draws
          (c.in_ok-draw_line.ensures.draws ∙ ap (λ (n : ℕ). c.loop-place.markup ++ drawings (verdict_line edge source (top + 36 + n) (seen_line c.line-item.result))) (c.from.ensures ∙ c.room.ensures));
    }
