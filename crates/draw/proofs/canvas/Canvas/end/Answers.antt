use Rattle.std.proofs.Common.{subst, sym}
use Rattle.picture.specs.{seen_windowed}
use Rattle.draw.specs.{DrawsLast, kept, says_of}
use Rattle.draw.proofs.Drawn.{draws_rest}
use Rattle.draw.proofs.Ending.{last_drawn}
use Rattle.draw.proofs.canvas.Canvas.end.Goals as goal

pub returns-clause-drawn : goal.returns-clause-drawn
returns-clause-drawn g c =
    let line = c.args.line in
    let last = says_of line.line_content in
    let mid = c.draw_up_to_verdict.new.self in
    let a = g.W.Sink.taken c.args.output.now in
    let b = g.W.Sink.taken c.draw_up_to_verdict.new.output in
    let z = g.W.Sink.taken c.write_last.new.output in
    let bands = c.in_ok-full.ensures in
    let verdict = c.in_ok-verdict.verdict in
    let rest = draws_rest line.at verdict (kept mid) (seen_windowed c.end.new.self) c.in_ok-full.full c.in_ok-full.last b z bands.lines bands.page (c.in_ok-write_last.ensures.drawn bands.full bands.last) in
    subst (DrawsLast c.args.self.now a z line.source line.at c.args.reported.now last) (sym c.height.ensures)
    (last_drawn c.args.self.now mid a b z line.source line.at c.args.reported.now last verdict c.end.new.self.page.height c.in_ok-verdict.ensures.drawn rest)
