use Rattle.std.proofs.Common.{subst, sym}
use Rattle.picture.specs.{Form}
use Rattle.draw.specs.{Heads}
use Rattle.draw.proofs.Sheeted.{heads_page}
use Rattle.draw.proofs.Written.{ok_then}
use Rattle.draw.proofs.records.around.PictureForm.write_head.Goals as goal

pub returns-in_ok-head-in-Page-clause-heads : goal.returns-in_ok-head-in-Page-clause-heads
returns-in_ok-head-in-Page-clause-heads g c =
    ok_then c.write_markup.result
    (λ written. subst (λ (f : Form). Heads c.args.shows f c.args.setup.now (g.W.Sink.taken c.args.output.now) (g.W.Sink.taken c.write_markup.new.output)) (sym c.in-Page.is)
    (heads_page c.args.shows c.args.setup.now (g.W.Sink.taken c.args.output.now) (g.W.Sink.taken c.write_markup.new.output) c.in_ok-head-in-Page.head c.in_ok-head-in-Page.ensures.draws c.in_ok-head-in-Page.ensures.lines c.in_ok-head-in-Page.ensures.elements written))
    c.write_markup.ensures.written
