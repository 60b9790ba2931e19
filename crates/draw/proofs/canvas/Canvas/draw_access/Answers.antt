use Rattle.draw.specs.{kept}
use Rattle.draw.proofs.Drawn.{draws_on_access}
use Rattle.draw.proofs.Written.{ok_then}
use Rattle.draw.proofs.canvas.Canvas.draw_access.Goals as goal

pub returns-clause-drawn : goal.returns-clause-drawn
returns-clause-drawn g c =
    ok_then c.write_band.result
    (λ wrote. draws_on_access c.args.access (kept c.args.self.now) _ c.in_ok-full.full (g.W.Sink.taken c.args.output.now) (g.W.Sink.taken c.write_band.new.output) c.in_ok-full.ensures.window c.in_ok-full.ensures.lines c.in_ok-full.ensures.page (wrote c.in_ok-full.ensures.ended))
    c.write_band.ensures.drawn
