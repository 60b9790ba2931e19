use Rattle.std.proofs.Common.{[], ◌∷◌, map}
use Rattle.draw.specs.{GivesLine, GivesRead, kept, says_of, shown_of}
use Rattle.draw.proofs.Drawn.{draws_on_both, draws_on_line}
use Rattle.draw.proofs.Written.{ok_then}
use Rattle.draw.proofs.canvas.Canvas.draw.Goals as goal

pub returns-clause-drawn : goal.returns-clause-drawn
returns-clause-drawn g c =
    ok_then c.write_band.result
    (λ wrote mode s past reads waits.
    let drawn = c.in_ok-draw_reads.ensures.drawn mode s past reads waits in
    let line = c.args.line in (
      draws_on_both _ _ _ _ _ _ (map GivesRead (shown_of mode reads)) (GivesLine line.source line.at (says_of line.line_content) ∷ []) drawn.0
          (draws_on_line line (kept c.draw_reads.new.self) _ c.in_ok-full.full (g.W.Sink.taken c.draw_reads.new.output) (g.W.Sink.taken c.write_band.new.output)
          c.in_ok-full.ensures.window c.in_ok-full.ensures.lines c.in_ok-full.ensures.page (wrote c.in_ok-full.ensures.ended)),
      drawn.1,
    ))
    c.write_band.ensures.drawn
