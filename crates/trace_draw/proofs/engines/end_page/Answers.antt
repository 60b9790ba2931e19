use Rattle.draw.proofs.Written.{ok_then}
use Rattle.trace_draw.proofs.Drawn.{page_whole}
use Rattle.trace_draw.proofs.engines.end_page.Goals as goal

pub returns-clause-drawn : goal.returns-clause-drawn
returns-clause-drawn g c =
    ok_then c.write_markup.result
    (λ written options s shown reported first ends. page_whole options s shown reported c.args.drawn.now first (g.W.Sink.taken c.args.output.now) (g.W.Sink.taken c.write_markup.new.output) c.in_ok-end.end ends
    c.in_ok-end.ensures.draws c.in_ok-end.ensures.lines c.in_ok-end.ensures.elements written)
    c.write_markup.ensures.written
