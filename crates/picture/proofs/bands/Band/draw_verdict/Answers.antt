use Rattle.std.proofs.Common.{ℕ, ◌+◌, List, ◌++◌, ◌∙◌, ap, flat_map}
use Rattle.markup.specs.{Shape, drawings, with_lines}
use Rattle.picture_layout.specs.{SeenAccesses, seen_accesses}
use Rattle.picture.specs.{SeenBand, SeenVerdict, bad_column, bad_place, box_at, lines_from, outline_of, seen_band, seen_verdict, verdict_by, verdict_titles}
use Rattle.picture.proofs.Drawn.{ends_drawn, then_drawn}
use Rattle.picture.proofs.Sheetings.{adds_other}
use Rattle.picture.proofs.Reportings.{then_same}
use Rattle.picture.proofs.bands.Band.draw_verdict.Goals as goal

pub returns-clause-draws : goal.returns-clause-draws
returns-clause-draws c =
    let band : SeenBand = seen_band c.args.self.now in
    let accesses : SeenAccesses = seen_accesses c.args.accesses.now in
    let verdict : SeenVerdict = seen_verdict c.args.verdict.now in
    let old : List ℕ = c.args.markup.now in
    let edge : ℕ = c.edge-edge.result in
    let top : ℕ = c.from-top.result + 8 in
    let column : List Shape = bad_column band.layout (bad_place verdict.bad band.columns) in
    let named : List Shape = flat_map (outline_of band accesses verdict.bad edge) verdict.lines in
    let box : List Shape = box_at top verdict in
    let lines : List Shape = lines_from edge verdict.source top 0 verdict.lines in
    adds_other c.draw_lines.result old _ (drawings (column ++ named ++ box ++ lines)) _
    (ends_drawn c.draw_lines.result old _ _ (column ++ named ++ box) lines
    (then_drawn old _ _ (column ++ named) box
    (then_drawn old _ _ column named c.in_ok-draw_bad_column.ensures.draws c.in_ok-draw_pointers.ensures.draws)
    c.in_ok-draw_box.ensures.draws) c.draw_lines.ensures.draws)
    (λ i. drawings (verdict_by verdict band accesses (c.edge-edge.ensures i) (c.from-top.ensures i + 8)))

pub returns-clause-read : goal.returns-clause-read
returns-clause-read c =
    then_same c.draw_lines.result _ _ _ c.draw_lines.ensures.read
    (ap (with_lines (verdict_titles (seen_verdict c.args.verdict.now)))
    (c.in_ok-draw_box.ensures.read ∙ c.in_ok-draw_pointers.ensures.read ∙ c.in_ok-draw_bad_column.ensures.read))
