use Rattle.std.proofs.Common.{Option, subst}
use Rattle.draw.proofs.Written.{ok_then}
use Rattle.trace_draw.specs.{AreShownBy, TraceDrawing}
use Rattle.trace_draw.proofs.Holding.{drawn_on}
use Rattle.trace_draw.proofs.held.ShownEntries.take.Goals as goal

pub returns-in-Some-clause-shown : goal.returns-in-Some-clause-shown
returns-in-Some-clause-shown g c =
    let view = c.args.view in
    let s = c.args.setup.now in
    let held = c.args.self.now.held.items in
    let a = g.W.Sink.taken c.args.output.now in
    let b = g.W.Sink.taken c.draw_entry.new.output in
    ok_then c.draw_entry.result
    (λ on past first shown.
    drawn_on view.form view.options s past c.in-Some.drawing c.draw_entry.new.self held held c.args.entry.now first a b
    (subst (λ (o : Option TraceDrawing). AreShownBy o held view.form view.options s past first a) c.in-Some.is shown) on)
    c.draw_entry.ensures.drawn

pub returns-in-None-clause-shown : goal.returns-in-None-clause-shown
returns-in-None-clause-shown g c =
    let view = c.args.view in
    let held = c.args.self.now.held.items in
    let a = g.W.Sink.taken c.args.output.now in
    ok_then c.hold_or_draw.result
    (λ on past first shown. on past first (subst (λ (o : Option TraceDrawing). AreShownBy o held view.form view.options c.args.setup.now past first a) c.in-None.is shown))
    c.hold_or_draw.ensures.shown
