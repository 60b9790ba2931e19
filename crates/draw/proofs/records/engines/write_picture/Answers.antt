use Rattle.draw.proofs.Whole.{picture_drawn}
use Rattle.draw.proofs.Written.{ok_then}
use Rattle.draw.proofs.records.engines.write_picture.Goals as goal

pub returns-clause-drawn : goal.returns-clause-drawn
returns-clause-drawn g c =
    ok_then c.write_markup-2.result
    (λ written asked said reported bands. picture_drawn asked said reported c.args.drawn.now c.args.bands.now (g.W.Sink.taken c.args.output.now) (g.W.Sink.taken c.write_markup.new.output) (g.W.Sink.taken c.write_all.new.output) (g.W.Sink.taken c.write_markup-2.new.output) c.in_ok-head.head c.in_ok-head.end bands
    c.in_ok-head.ensures.front c.in_ok-head.ensures.back c.in_ok-head.ensures.elements c.in_ok-write_markup.ensures.written c.in_ok-write_all.ensures.written written)
    c.write_markup-2.ensures.written
