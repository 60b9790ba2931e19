use Rattle.std.proofs.Common.{◌∙◌, ap}
use Rattle.draw.proofs.Written.{ok_then}
use Rattle.picture.specs.{trace_picture_front}
use Rattle.trace_draw.proofs.Drawn.{picture_whole}
use Rattle.trace_draw.proofs.engines.write_picture.Goals as goal

pub returns-clause-drawn : goal.returns-clause-drawn
returns-clause-drawn g c =
    ok_then c.write_markup-2.result
    (λ written options s shown reported ends. picture_whole options s shown reported c.args.drawn.now c.args.bands.now (g.W.Sink.taken c.args.output.now) (g.W.Sink.taken c.write_markup.new.output) (g.W.Sink.taken c.write_all.new.output) (g.W.Sink.taken c.write_markup-2.new.output) c.in_ok-head.head c.in_ok-end.end ends
    (c.in_ok-head.ensures.draws ∙ ap (λ title. trace_picture_front title c.args.drawn.now.bands.height c.args.drawn.now.bands.shows) c.as_slice.ensures.value) c.in_ok-end.ensures.draws
    (record { no_head = c.in_ok-head.ensures.lines; begins = c.in_ok-head.ensures.elements; no_end = c.in_ok-end.ensures.lines; ends = c.in_ok-end.ensures.elements })
    c.in_ok-write_markup.ensures.written c.in_ok-write_all.ensures.written written)
    c.write_markup-2.ensures.written
