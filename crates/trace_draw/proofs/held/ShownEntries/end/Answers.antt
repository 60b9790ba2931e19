use Rattle.std.proofs.Common.{List, Option, reverse, subst}
use Rattle.draw.proofs.Written.{if_ok_both}
use Rattle.picture.specs.declared.reads.Reads.TheVariants as reads
use Rattle.trace.specs.{TraceEntry}
use Rattle.trace_draw.specs.{AreShownBy, IsDrawn, TraceDrawing}
use Rattle.trace_draw.proofs.Holding.{held_end, shown_end}
use Rattle.trace_draw.proofs.held.ShownEntries.end.Goals as goal

pub returns-in-Some-clause-drawn : goal.returns-in-Some-clause-drawn
returns-in-Some-clause-drawn g c =
    let view = c.args.view in
    let s = c.args.setup.now in
    let held = c.args.self.now.held.items in
    let a = g.W.Sink.taken c.args.output.now in
    let b = g.W.Sink.taken c.end.new.output in
    if_ok_both c.end.result
    (λ bands last same past first shown.
    shown_end view.form view.options s past held c.args.reported.now c.in-Some.drawing bands first a b
    (subst (λ (o : Option TraceDrawing). AreShownBy o held view.form view.options s past first a) c.in-Some.is shown) same last)
    c.end.ensures.drawn c.end.ensures.shows

pub returns-in_ok-drawing-in-None-clause-drawn : goal.returns-in_ok-drawing-in-None-clause-drawn
returns-in_ok-drawing-in-None-clause-drawn g c =
    let view = c.args.view in
    let s = c.args.setup.now in
    let held = c.args.self.now.held.items in
    let a = g.W.Sink.taken c.args.output.now in
    let mid = g.W.Sink.taken c.draw_held.new.output in
    let b = g.W.Sink.taken c.end-in-None.new.output in
    let d = c.in_ok-drawing-in-None.drawing in
    if_ok_both c.end-in-None.result
    (λ bands last same past first shown.
    held_end view.form view.options s past held c.args.reported.now d bands first a mid b
    (subst (λ (o : Option TraceDrawing). AreShownBy o held view.form view.options s past first a) c.in-None.is shown) (subst (λ (l : List TraceEntry). IsDrawn view.form view.options reads.All s (reverse l) d a mid) c.deref.ensures.value c.in_ok-drawing-in-None.ensures.drawn) same last)
    c.end-in-None.ensures.drawn c.end-in-None.ensures.shows
