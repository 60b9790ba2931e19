use Rattle.std.proofs.Common.{◌+◌, ℕ, ap, subst}
use Rattle.draw.specs.{DrawsLast, SaysLockEnd}
use Rattle.trace_draw.proofs.drawing.TraceDrawing.end.Goals as goal

pub returns-clause-drawn : goal.returns-clause-drawn
returns-clause-drawn g c =
    let old = c.args.self.now in
    let line = ap (λ (n : ℕ). n + 1) c.line_of_entries-source.ensures.line in
    subst (λ (n : ℕ). DrawsLast old.canvas (g.W.Sink.taken c.args.output.now) (g.W.Sink.taken c.end.new.output) n old.entries c.args.reported.now (SaysLockEnd old.entries) c.in_ok-height.height) line c.in_ok-height.ensures.drawn
