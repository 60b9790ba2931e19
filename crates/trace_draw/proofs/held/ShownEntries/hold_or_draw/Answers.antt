use Rattle.std.proofs.Common.{◌∷◌, List, Option, arith, reverse, subst, sym}
use Rattle.std.proofs.lemmas.List.{length-reverse}
use Rattle.picture.specs.declared.reads.Reads.TheVariants as reads
use Rattle.trace.specs.{TraceEntry}
use Rattle.trace_draw.specs.{AreShownBy, IsDrawn, TraceDrawing, limit_of}
use Rattle.trace_draw.proofs.Holding.{held_on, many_drawn}
use Rattle.trace_draw.proofs.Monitoring.{drawn_as_many}
use Rattle.trace_draw.proofs.held.ShownEntries.hold_or_draw.Goals as goal

pub draw_entry-requires-clause-room : goal.draw_entry-requires-clause-room
draw_entry-requires-clause-room g c =
    let many = drawn_as_many reads.Hidden (limit_of c.args.view.options) c.args.setup.now (reverse c.deref.result.now) c.in_ok-drawing.drawing c.in_ok-drawing.ensures.drawn.after in
    let long = length-reverse c.deref.result.now in
    omega (arith, many, long)

pub returns-then-len-lt-MOST_ENTRIES-clause-shown : goal.returns-then-len-lt-MOST_ENTRIES-clause-shown
returns-then-len-lt-MOST_ENTRIES-clause-shown g c = λ past first are.
    let view = c.args.view in
    let held = c.args.self.now.held.items in
    let then = c.hold.new.held.items in
    let a = g.W.Sink.taken c.args.output.now in
    subst (λ (o : Option TraceDrawing). AreShownBy o then view.form view.options c.args.setup.now (c.args.entry.now ∷ past) first a) (sym c.requires.undecided)
    (held_on view.form view.options c.args.setup.now past held then c.args.entry.now first a are (omega (arith, c.if-len-lt-MOST_ENTRIES.true)) c.in_ok-hold.ensures)

pub returns-clause-shown : goal.returns-clause-shown
returns-clause-shown g c = λ past first are.
    let view = c.args.view in
    let s = c.args.setup.now in
    let held = c.args.self.now.held.items in
    let a = g.W.Sink.taken c.args.output.now in
    let mid = g.W.Sink.taken c.draw_held.new.output in
    let b = g.W.Sink.taken c.draw_entry.new.output in
    let d = c.in_ok-drawing.drawing in
    many_drawn view.form view.options s past held c.new.result.items c.args.entry.now d c.draw_entry.new.self first a mid b are (omega (arith, c.if-len-lt-MOST_ENTRIES.false))
    (subst (λ (l : List TraceEntry). IsDrawn view.form view.options reads.Hidden s (reverse l) d a mid) c.deref.ensures.value c.in_ok-drawing.ensures.drawn) c.in_ok-draw_entry.ensures.drawn
