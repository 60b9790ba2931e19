use Rattle.std.proofs.Common.{◌∙◌, sym}
use Rattle.trace_draw.proofs.Holding.{none_drawn, none_held}
use Rattle.trace_draw.proofs.held.ShownEntries.begin.Goals as goal

pub returns-clause-shown : goal.returns-clause-shown
returns-clause-shown g c =
    none_held c.args.view.form c.args.view.options c.args.setup.now c.new-2.result.items (g.W.Sink.taken c.args.output.now) (sym c.shows_all.ensures ∙ c.if-shows_all.false) c.new-2.ensures.items

pub returns-then-shows_all-clause-shown : goal.returns-then-shows_all-clause-shown
returns-then-shows_all-clause-shown g c =
    none_drawn c.args.view.form c.args.view.options c.args.setup.now c.in_ok-drawing.drawing c.new.result.items (g.W.Sink.taken c.args.output.now) (g.W.Sink.taken c.begin_drawing.new.output) (sym c.shows_all.ensures ∙ c.if-shows_all.true) c.in_ok-drawing.ensures.drawn
