use Rattle.std.proofs.Common.{subst, sym}
use Rattle.picture.specs.{Form}
use Rattle.draw.proofs.Written.{ok_then}
use Rattle.trace_draw.specs.{Heads}
use Rattle.trace_draw.proofs.headings.write_head.Goals as goal

pub returns-in_ok-head-in-Page-clause-heads : goal.returns-in_ok-head-in-Page-clause-heads
returns-in_ok-head-in-Page-clause-heads g c =
    let head = c.in_ok-head-in-Page in
    ok_then c.write_markup.result
    (λ written. subst (λ (f : Form). Heads f c.args.shows c.args.setup.now (g.W.Sink.taken c.args.output.now) (g.W.Sink.taken c.write_markup.new.output)) (sym c.in-Page.is)
    (record { head = head.head; is = head.ensures.draws; lines = head.ensures.lines; opens = head.ensures.elements; writes = written }))
    c.write_markup.ensures.written
